use Rattle.std.proofs.Common.{◌≡◌, ◌++◌, length, take, true}
use Rattle.std.specs.List.{flat_map, list_all}
use Rattle.wac_graph_bytes.specs.Leb.{unsigned}
use Rattle.wac_graph_bytes.specs.Spelling.{case_bytes}
use Rattle.wac_graph_bytes.specs.Sizes.{case_fits, small}
use Rattle.wac_graph_bytes.specs.Views.{cases_view}
use Rattle.wac_graph_bytes.proofs.types.push_cases.Given as goal

abbrev pub invariant-loop-c : goal.invariant-loop-c
invariant-loop-c l = record {
  bytes : l.out.items ≡ l.fn.out.items ++ (unsigned (length l.cases) ++ flat_map case_bytes (cases_view (take l.c-index l.cases)));
  count_fits : small (length l.cases) ≡ true;
  names_fit : list_all case_fits (cases_view (take l.c-index l.cases)) ≡ true;
}
