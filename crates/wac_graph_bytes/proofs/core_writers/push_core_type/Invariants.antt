use Rattle.std.proofs.Common.{◌≡◌, ◌++◌, ◌∷◌, length, take, true}
use Rattle.std.specs.List.{flat_map, list_all}
use Rattle.wac_graph_bytes.specs.Leb.{unsigned}
use Rattle.wac_graph_bytes.specs.Spelling.{core_declaration}
use Rattle.wac_graph_bytes.specs.Sizes.{core_declaration_fits, small}
use Rattle.wac_graph_bytes.specs.Views.{module_view}
use Rattle.wac_graph_bytes.proofs.core_writers.push_core_type.Given as goal

abbrev pub invariant-loop-d : goal.invariant-loop-d
invariant-loop-d l = record {
  bytes : l.out.items ≡ l.fn.out.items ++ 0x50 ∷ (unsigned (length l.declarations) ++ flat_map core_declaration (module_view (take l.d-index l.declarations)));
  count_fits : small (length l.declarations) ≡ true;
  all_fit : list_all core_declaration_fits (module_view (take l.d-index l.declarations)) ≡ true;
}
