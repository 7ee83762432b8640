use Rattle.std.proofs.Common.{◌≡◌, ◌++◌, length, take, true}
use Rattle.std.specs.List.{flat_map, list_all}
use Rattle.wac_graph_bytes.specs.Leb.{unsigned}
use Rattle.wac_graph_bytes.specs.Sizes.{small}
use Rattle.wac_graph_bytes.specs.Declaring.{one_bytes, one_fits}
use Rattle.wac_graph_bytes.proofs.declarations.+declarations.Given as goal

abbrev pub invariant-push_declarations-loop-d : goal.invariant-push_declarations-loop-d
invariant-push_declarations-loop-d l = record {
  bytes : l.out.items ≡ l.fn.out.items ++ (unsigned (length l.ds) ++ flat_map one_bytes (take l.d-index l.ds));
  count_fits : small (length l.ds) ≡ true;
  all_fit : list_all one_fits (take l.d-index l.ds) ≡ true;
}
