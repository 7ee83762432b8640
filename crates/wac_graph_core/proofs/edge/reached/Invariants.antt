use Rattle.std.proofs.Common.{◌+◌, ◌-◌, length}
use Rattle.wac_graph_core.specs.Walking.{outside}
use Rattle.wac_graph_core.proofs.Following.{IsWalking}
use Rattle.wac_graph_core.proofs.edge.reached.Given as goal

abbrev pub invariant-loop-at : goal.invariant-loop-at
invariant-loop-at l = IsWalking l.follow l.edges l.fn.starts l.seen l.at

abbrev pub decreases-loop-at : goal.decreases-loop-at
decreases-loop-at l = outside l.seen l.edges + length l.seen - l.at
