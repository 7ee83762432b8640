use Rattle.wac_graph_core.proofs.Placing.{AreUsers}
use Rattle.wac_graph_core.proofs.places.put_users.Given as goal

abbrev pub invariant-loop-target : goal.invariant-loop-target
invariant-loop-target l = AreUsers l.initial.ties.items l.ties.items l.targets l.node l.target-index
