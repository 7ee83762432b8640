use Rattle.std.proofs.Common.{take}
use Rattle.wac_types_base.specs.Entries.{names_of}
use Rattle.wac_graph_bytes.specs.Views.{arguments_view}
use Rattle.wac_types_parts.specs.Parts.{imports_of}
use Rattle.wac_graph_encode.specs.Writing.{AreGivenUnder}
use Rattle.wac_graph_encode.proofs.instances.push_arguments.Given as goal

abbrev pub invariant-loop-at : goal.invariant-loop-at
invariant-loop-at l = AreGivenUnder l.standing l.bound (names_of (take l.at (imports_of l.types l.world))) (arguments_view l.arguments.items)
