use Rattle.std.specs.FinMap as finite
use Rattle.wac_graph_encode.proofs.WritingLaws.{WroteUpTo}
use Rattle.wac_graph_encode.proofs.instances.Wired.write_nodes.Given as goal

-- the nodes so far stand
abbrev pub invariant-loop-node : goal.invariant-loop-node
invariant-loop-node l =
    (goal.iterator-loop-node).can_next l.node-iterator ×
    (goal.iterator-loop-node).is_finite l.node-iterator ×
    WroteUpTo (finite.keys l.initial.self.graph.now.nodes) l.node-iterator l.initial.self l.self
