use Rattle.std.proofs.Common.{◌≡◌, Some, sym, subst}
use Rattle.wac_types_base.specs.declared.item.ItemKind.{ItemKind}
use Rattle.wac_types_base.specs.Collection.{Stands}
use Rattle.wac_types_base.specs.Entries.{value_at}
use Rattle.wac_types_base.specs.Stated.{stated_of, imports_of}
use Rattle.wac_graph_core.specs.Graph.{Graph}
use Rattle.wac_graph_core.proofs.Items.{import_stands}
use Rattle.wac_types_base.proofs.Stating.{import_stated}
use Rattle.wac_graph_core.proofs.GraphSteps.{instantiated_stands}
use Rattle.wac_graph_core.proofs.graph.CompositionGraph.argument_item.Goals as goal

pub returns-in-Some-get-clause-stands : goal.returns-in-Some-get-clause-stands
returns-in-Some-get-clause-stands c =
    let stands : Stands c.args.self.now.types (ItemKind.Component c.in-Some.«package».now.ty) = (instantiated_stands c.args.self.now c.args.instantiation c.in-Some.«package».now c.see_sound.ensures (sym c.in-Some.ensures)).world in
    let here : Stands c.self.inside.types (ItemKind.Component c.ty.result) =
    subst (λ w. Stands c.self.inside.types (ItemKind.Component w)) (sym c.ty.ensures) (subst (λ (g : Graph). Stands g.types (ItemKind.Component c.in-Some.«package».now.ty)) (sym c.self.view_is) stands) in
    subst (λ (g : Graph). Stands g.types c.in-Some-get.item.now) c.self.view_is
    (import_stands c.self.inside.types c.ty.result c.world.result.now c.args.name.now c.in-Some-get.item.now c.world.ensures.acyclic here c.world.ensures.entry c.world.ensures.own (sym c.in-Some-get.ensures))

pub returns-in-Some-get-clause-asked : goal.returns-in-Some-get-clause-asked
returns-in-Some-get-clause-asked c = record {
  of = c.in-Some.«package».now;
  is = sym c.in-Some.ensures;
  import = subst (λ (g : Graph). value_at (imports_of (stated_of g.types (ItemKind.Component c.in-Some.«package».now.ty))) c.args.name.now ≡ Some (stated_of g.types c.in-Some-get.item.now)) c.self.view_is
      (subst (λ w. value_at (imports_of (stated_of c.self.inside.types (ItemKind.Component w))) c.args.name.now ≡ Some (stated_of c.self.inside.types c.in-Some-get.item.now)) c.ty.ensures
      (import_stated c.self.inside.types c.ty.result c.world.result.now c.args.name.now c.in-Some-get.item.now c.world.ensures.acyclic c.world.ensures.entry c.world.ensures.own (sym c.in-Some-get.ensures)));
}
