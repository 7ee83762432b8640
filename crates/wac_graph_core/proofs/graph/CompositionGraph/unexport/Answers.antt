use Rattle.std.proofs.Common.{Some, None, sym, refl, subst}
use Rattle.wac_graph_core.specs.Graph.{ContainsNode}
use Rattle.wac_graph_core.specs.Exporting.{IsTold}
use Rattle.wac_graph_core.specs.View.{graph}
use Rattle.wac_graph_core.proofs.Calls.{unexported_by}
use Rattle.wac_graph_core.proofs.Below.{ReachBelow-same}
use Rattle.wac_graph_core.proofs.graph.CompositionGraph.unexport.Goals as goal

pub set_export-requires : goal.set_export-requires
set_export-requires c = subst (λ g. ContainsNode g c.args.node) (sym c.self.view_is) c.requires

pub invariant_of-self : goal.invariant_of-self
invariant_of-self c =
    let told : IsTold (graph c.self.inside) c.args.node (Some c.in-Some.at) = subst (λ g. IsTold g c.args.node (Some c.in-Some.at)) (sym c.self.view_is) c.in-Some.ensures in
    let place = told.some c.in-Some.at refl in (
      unexported_by (graph c.self.inside) c.set_export.new.self c.swap_remove.new.self.items c.args.node c.in-Some.at told.node place.0 told.there place.2 (c.set_export.ensures told.node told.there)
          (c.swap_remove.ensures (place.0, c.args.node) place.2) c.self.invariant.0,
      ReachBelow-same c.self.inside.types c.self.inside.nodes c.set_export.new.self c.self.inside.defined_below c.args.node told.node (record told.node { export = None }) told.there refl refl
          (c.set_export.ensures told.node told.there)
          c.self.invariant.1,
    )
