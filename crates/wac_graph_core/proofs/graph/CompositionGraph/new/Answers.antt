use Rattle.wac_graph_core.proofs.GraphSteps.{empty_graph}
use Rattle.wac_graph_core.proofs.Below.{ReachBelow-none}
use Rattle.wac_graph_core.proofs.graph.CompositionGraph.new.Goals as goal

pub invariant_of-result : goal.invariant_of-result
invariant_of-result c = (empty_graph _ _ _ _ _ c.new-2.ensures c.new-3.ensures c.new-4.ensures c.new-5.ensures.items, ReachBelow-none _ _ 0 c.new-2.ensures)
