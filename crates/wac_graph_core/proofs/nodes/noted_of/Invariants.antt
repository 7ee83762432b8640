use Rattle.std.proofs.Common.{take}
use Rattle.wac_graph_core.specs.Noted.{HasNotes}
use Rattle.wac_graph_core.specs.Slots.{nodes_in}
use Rattle.wac_graph_core.proofs.nodes.noted_of.Given as goal

abbrev pub invariant-loop-at : goal.invariant-loop-at
invariant-loop-at l = HasNotes l.noted (nodes_in (take l.at l.slots))
