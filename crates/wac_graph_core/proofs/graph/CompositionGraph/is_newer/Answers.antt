use Rattle.std.proofs.Common.{[], refl, sym, subst, ◌∙◌}
use Rattle.std.proofs.lemmas.Bool.{leb-true}
use Rattle.wac_types_base.specs.declared.item.ItemKind.{ItemKind}
use Rattle.wac_graph_core.specs.NodeMaps.{NoDefinition, AreThose}
use Rattle.wac_graph_core.specs.Graph.{Graph}
use Rattle.wac_graph_core.specs.Defining.{IsUserOf}
use Rattle.wac_graph_core.proofs.Below.{newer_undefined, newer_users}
use Rattle.wac_graph_core.proofs.graph.CompositionGraph.is_newer.Goals as goal

pub returns-in-Some-clause-undefined : goal.returns-in-Some-clause-undefined
returns-in-Some-clause-undefined c newer =
    subst (λ (g : Graph). NoDefinition g.nodes (ItemKind.Ty c.args.ty)) c.self.view_is
    (newer_undefined c.self.inside.types c.self.inside.nodes c.self.inside.defined_below c.self.invariant.1 c.args.ty c.in-Some.id (sym c.in-Some.is ∙ c.defined_of.ensures) (leb-true _ _ newer))

pub returns-in-Some-clause-unused : goal.returns-in-Some-clause-unused
returns-in-Some-clause-unused c newer =
    subst (λ (g : Graph). AreThose g.nodes (IsUserOf g.types c.args.ty) []) c.self.view_is
    (newer_users c.self.inside.types c.self.inside.nodes c.self.inside.defined_below c.self.invariant.1 c.args.ty c.in-Some.id (sym c.in-Some.is ∙ c.defined_of.ensures) (leb-true _ _ newer) [] refl)
