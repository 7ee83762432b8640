use Rattle.std.proofs.Common.{take}
use Rattle.wac_graph_core.proofs.Following.{IsFollowing}
use Rattle.wac_graph_core.proofs.edge.follow_from.Given as goal

abbrev pub invariant-loop-tie : goal.invariant-loop-tie
invariant-loop-tie l = IsFollowing l.follow l.edges l.fn.node l.initial.seen (take l.tie-index l.tie-items) l.seen
