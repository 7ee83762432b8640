use Rattle.wac_graph_core.proofs.Placing.{AreLeft}
use Rattle.wac_graph_core.proofs.places.leave_all.Given as goal

abbrev pub invariant-loop-at : goal.invariant-loop-at
invariant-loop-at l = AreLeft l.gone l.initial.ties.items l.ties.items l.at
