use Rattle.wac_graph_core.specs.View.{graph}
use Rattle.wac_graph_core.proofs.Below.{ReachBelow-module}
use Rattle.wac_graph_core.proofs.DefineSteps.{items_stand}
use Rattle.wac_graph_core.proofs.GraphSteps.{IsGraph-grown}
use Rattle.wac_graph_core.proofs.graph.CompositionGraph.add_module_type.Goals as goal

pub invariant_of-self : goal.invariant_of-self
invariant_of-self c = (
  IsGraph-grown (graph c.self.inside) c.add_module_type.new.self c.add_module_type.ensures.grows c.self.invariant.0,
  ReachBelow-module c.self.inside.types c.see_acyclic.ensures c.self.inside.nodes (items_stand (graph c.self.inside) c.self.invariant.0) c.add_module_type.result c.add_module_type.new.self c.self.inside.defined_below
      c.add_module_type.ensures.err c.self.invariant.1 c.args.ty c.add_module_type.ensures.added,
)
