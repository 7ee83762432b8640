use Rattle.std.proofs.Common.{◌≡◌, Some, ap, sym, slice_get, ◌∙◌}
use Rattle.wac_types_base.specs.declared.ids.WorldId.{WorldId}
use Rattle.wac_graph_core.specs.Imports.{unbound_list, unbound_imports}
use Rattle.wac_graph_core.specs.View.{graph}
use Rattle.wac_graph_core.proofs.Importing.{unbound_columns, imports_here}
use Rattle.wac_graph_core.proofs.graph.CompositionGraph.unbound_imports.Goals as goal

pub returns-in-Some : goal.returns-in-Some
returns-in-Some c =
    let edges = c.self.inside.edges in
    let world : slice_get c.self.inside.types.worlds c.in-Some.package.now.ty.index ≡ Some c.world.result.now =
    ap (λ (w : WorldId). slice_get c.self.inside.types.worlds w.index) (sym c.ty.ensures) ∙ c.world.ensures.entry in
    unbound_columns edges c.args.node _ _ c.world.result.now.imports c.names.ensures c.values.ensures
    ∙ ap (unbound_list edges c.args.node) (sym (imports_here (graph c.self.inside) c.in-Some.package.now c.world.result.now world))
    ∙ ap (λ g. unbound_imports g c.args.node (Some c.in-Some.package.now)) c.self.view_is
    ∙ ap (unbound_imports c.args.self.now c.args.node) c.in-Some.ensures
