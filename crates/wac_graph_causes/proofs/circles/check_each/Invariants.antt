use Rattle.wac_graph_causes.specs.Circling.{IfLate}
use Rattle.wac_graph_causes.proofs.CircleLaws.{LateLeft}
use Rattle.wac_graph_causes.proofs.circles.check_each.Given as goal

-- none so far is a cause
abbrev pub invariant-loop-one : goal.invariant-loop-one
invariant-loop-one l = IfLate l.test l.late (LateLeft l.test.is_outer l.test.types.now l.late l.one-index)
