use Rattle.std.proofs.Common.{[], ◌∷◌, ap, subst}
use Rattle.wac_graph_core.specs.declared.edge.Follow.{Follow}
use Rattle.wac_graph_core.specs.Edges.{IsReached}
use Rattle.wac_graph_core.specs.Graph.{Graph}
use Rattle.wac_graph_core.proofs.Removal.{closed_of}
use Rattle.wac_graph_core.proofs.graph.CompositionGraph.remove_node.Goals as goal

pub remove_nodes-requires : goal.remove_nodes-requires
remove_nodes-requires c =
    let reached : IsReached Follow.Owned c.args.self.now.edges (c.args.node ∷ []) c.in_ok-gone.gone =
    subst (λ es. IsReached Follow.Owned es (c.args.node ∷ []) c.in_ok-gone.gone) (ap (λ (g : Graph). g.edges) c.self.view_is) c.in_ok-gone.ensures in
    (closed_of Follow.Owned c.args.self.now.edges (c.args.node ∷ []) c.in_ok-gone.gone reached)

pub returns-clause-removed : goal.returns-clause-removed
returns-clause-removed c =
    let reached : IsReached Follow.Owned c.args.self.now.edges (c.args.node ∷ []) c.in_ok-gone.gone =
    subst (λ es. IsReached Follow.Owned es (c.args.node ∷ []) c.in_ok-gone.gone) (ap (λ (g : Graph). g.edges) c.self.view_is) c.in_ok-gone.ensures in
    record {
      gone = c.in_ok-gone.gone;
      reached = reached;
      taken = c.remove_nodes.ensures;
    }
