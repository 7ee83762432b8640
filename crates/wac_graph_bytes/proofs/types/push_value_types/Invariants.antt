use Rattle.std.proofs.Common.{◌≡◌, ◌++◌, length, take, true}
use Rattle.std.specs.List.{flat_map, list_all}
use Rattle.wac_graph_bytes.specs.Leb.{unsigned}
use Rattle.wac_graph_bytes.specs.Spelling.{value_type}
use Rattle.wac_graph_bytes.specs.Sizes.{value_fits, small}
use Rattle.wac_graph_bytes.proofs.types.push_value_types.Given as goal

abbrev pub invariant-loop-t : goal.invariant-loop-t
invariant-loop-t l = record {
  bytes : l.out.items ≡ l.fn.out.items ++ (unsigned (length l.types) ++ flat_map value_type (take l.t-index l.types));
  count_fits : small (length l.types) ≡ true;
  all_fit : list_all value_fits (take l.t-index l.types) ≡ true;
}
