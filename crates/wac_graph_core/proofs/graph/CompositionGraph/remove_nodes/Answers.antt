use Rattle.std.proofs.Common.{◌≡◌, sym, subst, not, ap, ◌∙◌}
use Rattle.std.specs.FinMap as map
use Rattle.wac_graph_core.specs.declared.edge.Follow.{Follow}
use Rattle.wac_graph_core.specs.Edges.{has}
use Rattle.wac_graph_core.specs.Graph.{Graph}
use Rattle.wac_graph_core.specs.Removing.{IsClosed, TakesNodes}
use Rattle.wac_graph_core.specs.View.{graph}
use Rattle.wac_graph_core.proofs.Removal.{left_by}
use Rattle.wac_graph_core.proofs.Calls.{take_step}
use Rattle.wac_graph_core.proofs.Below.{ReachBelow-left}
use Rattle.wac_graph_core.proofs.graph.CompositionGraph.remove_nodes.Goals as goal

pub invariant_of-self : goal.invariant_of-self
invariant_of-self c =
    let nodes : c.remove_all.new.self ≡ map.retain_keys c.self.inside.nodes (λ k. not (has c.args.gone.now k)) = c.remove_all.ensures ∙ ap (λ l. map.retain_keys c.self.inside.nodes (λ k. not (has l k))) c.as_slice.ensures.value in (
      left_by (graph c.self.inside) c.retain_apart.new.self c.args.gone.now c.remove_all.new.self c.remove_exports.new.exports.items nodes c.remove_exports.ensures
          (subst (λ (g : Graph). IsClosed Follow.Owned g.edges c.args.gone.now) (sym c.self.view_is) c.requires) c.retain_apart.ensures c.self.invariant.0,
      ReachBelow-left c.self.inside.types c.self.inside.nodes c.remove_all.new.self c.self.inside.defined_below c.args.gone.now nodes c.self.invariant.1,
    )

pub returns : goal.returns
returns c =
    let nodes : c.remove_all.new.self ≡ map.retain_keys c.self.inside.nodes (λ k. not (has c.args.gone.now k)) = c.remove_all.ensures ∙ ap (λ l. map.retain_keys c.self.inside.nodes (λ k. not (has l k))) c.as_slice.ensures.value in
    subst (λ g. TakesNodes g (record (graph c.self.inside) { nodes = c.remove_all.new.self; edges = c.retain_apart.new.self; exports = c.remove_exports.new.exports.items }) c.args.gone.now) c.self.view_is
    (take_step (graph c.self.inside) c.remove_all.new.self c.retain_apart.new.self c.remove_exports.new.exports.items c.args.gone.now nodes c.remove_exports.ensures c.retain_apart.ensures)
