use Rattle.wac_graph_core.specs.View.{graph}
use Rattle.wac_graph_core.proofs.Below.{ReachBelow-func_type}
use Rattle.wac_graph_core.proofs.DefineSteps.{items_stand}
use Rattle.wac_graph_core.proofs.GraphSteps.{IsGraph-grown}
use Rattle.wac_graph_core.proofs.graph.CompositionGraph.add_func_type.Goals as goal

pub invariant_of-self : goal.invariant_of-self
invariant_of-self c = (
  IsGraph-grown (graph c.self.inside) c.add_func_type.new.self c.add_func_type.ensures.grows c.self.invariant.0,
  ReachBelow-func_type c.self.inside.types c.see_acyclic.ensures c.self.inside.nodes (items_stand (graph c.self.inside) c.self.invariant.0) c.add_func_type.result c.add_func_type.new.self c.self.inside.defined_below
      c.add_func_type.ensures.err c.self.invariant.1 c.args.func c.add_func_type.ensures.added,
)
