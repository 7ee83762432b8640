use Rattle.std.proofs.Common.{◌≡◌, ◌++◌, take, true, codes}
use Rattle.std.specs.List.{flat_map, list_all}
use Rattle.wac_graph_bytes.specs.Spelling.{name}
use Rattle.wac_graph_bytes.specs.Views.{all_names_view}
use Rattle.wac_graph_bytes.specs.Writing.{debug_part, debug_part_fits}
use Rattle.wac_graph_bytes.proofs.component.push_debug_inside.Given as goal

abbrev pub invariant-loop-n : goal.invariant-loop-n
invariant-loop-n l = record {
  bytes : l.out.items ≡ l.fn.out.items ++ (name (codes "component-name") ++ flat_map debug_part (all_names_view (take l.n-index l.names)));
  all_fit : list_all debug_part_fits (all_names_view (take l.n-index l.names)) ≡ true;
}
