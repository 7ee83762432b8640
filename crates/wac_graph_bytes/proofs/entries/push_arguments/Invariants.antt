use Rattle.std.proofs.Common.{◌≡◌, ◌++◌, length, take, true}
use Rattle.std.specs.List.{flat_map, list_all}
use Rattle.wac_graph_bytes.specs.Leb.{unsigned}
use Rattle.wac_graph_bytes.specs.Spelling.{argument}
use Rattle.wac_graph_bytes.specs.Sizes.{argument_fits, small}
use Rattle.wac_graph_bytes.specs.Views.{arguments_view}
use Rattle.wac_graph_bytes.proofs.entries.push_arguments.Given as goal

abbrev pub invariant-loop-a : goal.invariant-loop-a
invariant-loop-a l = record {
  bytes : l.out.items ≡ l.fn.out.items ++ (unsigned (length l.arguments) ++ flat_map argument (arguments_view (take l.a-index l.arguments)));
  count_fits : small (length l.arguments) ≡ true;
  names_fit : list_all argument_fits (arguments_view (take l.a-index l.arguments)) ≡ true;
}
