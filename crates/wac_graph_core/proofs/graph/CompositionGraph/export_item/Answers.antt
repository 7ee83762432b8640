use Rattle.std.proofs.Common.{◌≡◌, Some, ap, sym, subst}
use Rattle.wac_types_base.specs.declared.item.ItemKind.{ItemKind}
use Rattle.wac_types_base.specs.Collection.{Stands}
use Rattle.wac_types_base.specs.Entries.{value_at}
use Rattle.wac_types_base.specs.Stated.{stated_of, exports_of}
use Rattle.wac_graph_core.specs.Graph.{Graph, is_instance}
use Rattle.wac_graph_core.proofs.Items.{export_stands}
use Rattle.wac_types_base.proofs.Stating.{export_stated}
use Rattle.wac_graph_core.proofs.graph.CompositionGraph.export_item.Goals as goal

pub interface-requires : goal.interface-requires
interface-requires c =
    subst (Stands c.self.inside.types) (sym c.in-Instance.ensures)
    (subst (λ (g : Graph). Stands g.types c.node.result.now.item_kind) (sym c.self.view_is) (c.see_sound.ensures.nodes c.args.instance c.node.result.now c.node.ensures).item)

pub returns-in-Some-clause-stands : goal.returns-in-Some-clause-stands
returns-in-Some-clause-stands c =
    let stands : Stands c.self.inside.types (ItemKind.Instance c.in-Instance.id) =
    subst (Stands c.self.inside.types) (sym c.in-Instance.ensures)
    (subst (λ (g : Graph). Stands g.types c.node.result.now.item_kind) (sym c.self.view_is) (c.see_sound.ensures.nodes c.args.instance c.node.result.now c.node.ensures).item) in
    subst (λ (g : Graph). Stands g.types c.in-Some.item.now) c.self.view_is
    (export_stands c.self.inside.types c.in-Instance.id c.interface.result.now c.args.export.now c.in-Some.item.now c.interface.ensures.acyclic stands c.interface.ensures.entry c.interface.ensures.own (sym c.in-Some.ensures))

pub returns-in-Some-clause-stated : goal.returns-in-Some-clause-stated
returns-in-Some-clause-stated c = record {
  node = c.node.result.now;
  there = c.node.ensures;
  kind = (
    sym (ap is_instance c.in-Instance.ensures),
    subst (λ k. value_at (exports_of (stated_of c.args.self.now.types k)) c.args.export.now ≡ Some (stated_of c.args.self.now.types c.in-Some.item.now)) c.in-Instance.ensures
        (subst (λ (g : Graph). value_at (exports_of (stated_of g.types (ItemKind.Instance c.in-Instance.id))) c.args.export.now ≡ Some (stated_of g.types c.in-Some.item.now)) c.self.view_is
        (export_stated c.self.inside.types c.in-Instance.id c.interface.result.now c.args.export.now c.in-Some.item.now c.interface.ensures.acyclic c.interface.ensures.entry c.interface.ensures.own (sym c.in-Some.ensures))),
  );
}
