use Rattle.std.proofs.Common.{◌≡◌, Some, slice_get, subst}
use Rattle.wac_types_base.specs.declared.ids.WorldId.{WorldId}
use Rattle.wac_types_base.specs.declared.ids.InterfaceId.{InterfaceId}
use Rattle.wac_types_base.specs.declared.item.ItemKind.{ItemKind}
use Rattle.wac_types_base.specs.Collection.{Stands}
use Rattle.wac_graph_core.specs.Graph.{Graph, PackageStands}
use Rattle.wac_graph_core.proofs.Stating.{instance_stated}
use Rattle.wac_graph_core.proofs.graph.CompositionGraph.package_stands.Goals as goal

pub returns-clause-stands : goal.returns-clause-stands
returns-clause-stands c = λ yes.
    let t = c.self.inside.types in
    let p = c.args.«package».now in
    let w = c.world-world.result.now in
    let i = c.interface-interface.result.now in
    subst (λ (g : Graph). PackageStands g.types p) c.self.view_is
    (record {
      world = subst (λ (id : WorldId). Stands t (ItemKind.Component id)) c.ty.ensures (c.has.ensures.0 c.if-not-has.false);
      instance = subst (λ (id : InterfaceId). Stands t (ItemKind.Instance id)) c.instance_type.ensures (c.has-2.ensures.0 c.if-not-has-2.false);
      exports = instance_stated t c.see_acyclic.ensures p.ty p.instance_type w i
          (subst (λ (id : WorldId). slice_get t.worlds id.index ≡ Some w) c.ty-2.ensures c.world-world.ensures.entry)
          (subst (λ (id : WorldId). id.collection ≡ t.number) c.ty-2.ensures c.world-world.ensures.own)
          (subst (λ (id : InterfaceId). slice_get t.interfaces id.index ≡ Some i) c.instance_type-2.ensures c.interface-interface.ensures.entry)
          (subst (λ (id : InterfaceId). id.collection ≡ t.number) c.instance_type-2.ensures c.interface-interface.ensures.own)
          (c.is_made_of.ensures.0 yes);
    })
