use Rattle.std.proofs.Common.{◌≡◌, ◌++◌, length, take, true, map}
use Rattle.std.specs.List.{flat_map, list_all}
use Rattle.wac_graph_bytes.specs.Leb.{unsigned}
use Rattle.wac_graph_bytes.specs.Sizes.{small}
use Rattle.wac_graph_bytes.specs.Views.{index_name_view}
use Rattle.wac_graph_bytes.specs.Writing.{index_name, index_name_fits}
use Rattle.wac_graph_bytes.proofs.component.push_index_names.Given as goal

abbrev pub invariant-loop-n : goal.invariant-loop-n
invariant-loop-n l = record {
  bytes : l.out.items ≡ l.fn.out.items ++ (unsigned (length l.names) ++ flat_map index_name (map index_name_view (take l.n-index l.names)));
  count_fits : small (length l.names) ≡ true;
  names_fit : list_all index_name_fits (map index_name_view (take l.n-index l.names)) ≡ true;
}
