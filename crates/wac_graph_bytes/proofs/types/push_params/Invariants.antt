use Rattle.std.proofs.Common.{◌≡◌, ◌++◌, length, take, true}
use Rattle.std.specs.List.{flat_map, list_all}
use Rattle.wac_graph_bytes.specs.Leb.{unsigned}
use Rattle.wac_graph_bytes.specs.Spelling.{field}
use Rattle.wac_graph_bytes.specs.Sizes.{field_fits, small}
use Rattle.wac_graph_bytes.specs.Views.{params_view}
use Rattle.wac_graph_bytes.proofs.types.push_params.Given as goal

abbrev pub invariant-loop-p : goal.invariant-loop-p
invariant-loop-p l = record {
  bytes : l.out.items ≡ l.fn.out.items ++ (unsigned (length l.params) ++ flat_map field (params_view (take l.p-index l.params)));
  count_fits : small (length l.params) ≡ true;
  names_fit : list_all field_fits (params_view (take l.p-index l.params)) ≡ true;
}
