use Rattle.std.proofs.Common.{◌≡◌, take}
use Rattle.wac_graph_core.proofs.node_set.NodeSet.of.Given as goal

abbrev pub invariant-loop-node : goal.invariant-loop-node
invariant-loop-node l = l.set ≡ take l.node-index l.nodes
