use Rattle.std.proofs.Common.{◌≡◌, ◌++◌, length, take, true, map, string_bytes}
use Rattle.std.specs.List.{flat_map, list_all}
use Rattle.wac_graph_bytes.specs.Leb.{unsigned}
use Rattle.wac_graph_bytes.specs.Spelling.{name}
use Rattle.wac_graph_bytes.specs.Sizes.{name_fits, small}
use Rattle.wac_graph_bytes.proofs.text.push_names.Given as goal

abbrev pub invariant-loop-n : goal.invariant-loop-n
invariant-loop-n l = record {
  bytes : l.out.items ≡ l.fn.out.items ++ (unsigned (length l.names) ++ flat_map name (map string_bytes (take l.n-index l.names)));
  count_fits : small (length l.names) ≡ true;
  names_fit : list_all name_fits (map string_bytes (take l.n-index l.names)) ≡ true;
}
