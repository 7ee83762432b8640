use Rattle.wac_graph_core.specs.View.{graph}
use Rattle.wac_graph_core.proofs.Below.{ReachBelow-resource}
use Rattle.wac_graph_core.proofs.DefineSteps.{items_stand}
use Rattle.wac_graph_core.proofs.GraphSteps.{IsGraph-grown}
use Rattle.wac_graph_core.proofs.graph.CompositionGraph.add_resource.Goals as goal

pub invariant_of-self : goal.invariant_of-self
invariant_of-self c = (
  IsGraph-grown (graph c.self.inside) c.add_resource.new.self c.add_resource.ensures.grows c.self.invariant.0,
  ReachBelow-resource c.self.inside.types c.see_acyclic.ensures c.self.inside.nodes (items_stand (graph c.self.inside) c.self.invariant.0) c.add_resource.result c.add_resource.new.self c.self.inside.defined_below
      c.add_resource.ensures.err c.self.invariant.1 c.args.resource c.add_resource.ensures.added,
)
