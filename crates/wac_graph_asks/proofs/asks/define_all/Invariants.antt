use Rattle.std.proofs.Common.{[]}
use Rattle.std.specs.FinMap as finite
use Rattle.wac_graph_asks.specs.AskedNodes.{definitions_at}
use Rattle.wac_graph_asks.proofs.Asking.{AddsUpTo}
use Rattle.wac_graph_asks.proofs.asks.define_all.Given as goal

-- what the nodes so far define is added
abbrev pub invariant-loop-node : goal.invariant-loop-node
invariant-loop-node l =
    (goal.iterator-loop-node).can_next l.node-iterator ×
    (goal.iterator-loop-node).is_finite l.node-iterator ×
    AddsUpTo l.graph (λ k. []) (λ k. []) (definitions_at l.graph) (finite.keys l.graph.nodes) l.initial.asked l.node-iterator l.asked
