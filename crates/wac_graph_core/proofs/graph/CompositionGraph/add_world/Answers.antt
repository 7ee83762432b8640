use Rattle.wac_graph_core.specs.View.{graph}
use Rattle.wac_graph_core.proofs.Below.{ReachBelow-world}
use Rattle.wac_graph_core.proofs.DefineSteps.{items_stand}
use Rattle.wac_graph_core.proofs.GraphSteps.{IsGraph-grown}
use Rattle.wac_graph_core.proofs.graph.CompositionGraph.add_world.Goals as goal

pub invariant_of-self : goal.invariant_of-self
invariant_of-self c = (
  IsGraph-grown (graph c.self.inside) c.add_world.new.self c.add_world.ensures.grows c.self.invariant.0,
  ReachBelow-world c.self.inside.types c.see_acyclic.ensures c.self.inside.nodes (items_stand (graph c.self.inside) c.self.invariant.0) c.add_world.result c.add_world.new.self c.self.inside.defined_below
      c.add_world.ensures.err c.self.invariant.1 c.args.world c.add_world.ensures.added,
)
