use Rattle.std.proofs.Common.{length, ap, sym, subst, ◌∙◌}
use Rattle.wac_types_base.specs.Collection.{Grows}
use Rattle.wac_graph_core.specs.Defining.{ReachBelow}
use Rattle.wac_graph_core.specs.Types.{with_collection}
use Rattle.wac_graph_core.specs.View.{graph}
use Rattle.wac_graph_core.proofs.Below.{ReachBelow-all}
use Rattle.wac_graph_core.proofs.DefineSteps.{items_stand}
use Rattle.wac_graph_core.proofs.GraphSteps.{IsGraph-grown}
use Rattle.wac_graph_core.proofs.graph.CompositionGraph.copy_world_here.Goals as goal

pub invariant_of-self : goal.invariant_of-self
invariant_of-self c =
    let types = c.copy_world-copied.new.to.types.now in
    let grown = IsGraph-grown (graph c.self.inside) types (subst (λ t. Grows t types) c.adding.ensures.types c.copy_world-copied.ensures.grows) c.self.invariant.0 in (
      grown,
      subst (ReachBelow types c.self.inside.nodes) (sym (c.len-self-inside.ensures ∙ ap length c.defined_types.ensures))
          (ReachBelow-all types c.copy_world-copied.ensures.grows.acyclic c.self.inside.nodes (items_stand (with_collection (graph c.self.inside) types) grown)),
    )
