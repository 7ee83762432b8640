use Rattle.std.proofs.Common.{◌≡◌, ◌++◌, ◌∷◌, [], ◌∙◌, Some, ap, arith, subst, sym, take}
use Rattle.wac_types_base.specs.declared.item.«Type».{«Type» as TypeKind}
use Rattle.wac_types_base.specs.declared.item.ItemKind.{ItemKind}
use Rattle.wac_types_base.specs.declared.defined.World.{World}
use Rattle.wac_types_base.specs.Collection.{Stands, size_of}
use Rattle.wac_types_base.specs.Stated.{stated_of}
use Rattle.wac_types_base.proofs.Looked.{among-get}
use Rattle.wac_types_base.proofs.Slots.{stands_typed_interface, stands_typed_world}
use Rattle.wac_types_written.proofs.Forming.{interface_type_size, other_item, other_type, world_parts_size, world_type_size}
use Rattle.wac_types_written.proofs.Ids.{interface_exports_stand, world_exports_stand, world_imports_stand}
use Rattle.wac_types_written.proofs.Stepping.{item_size, parts_size}
use Rattle.wac_composition.specs.Circles.{imports_inside}
use Rattle.wac_graph_causes.specs.Inside.{inside_items, world_imports}
use Rattle.wac_graph_causes.proofs.WorldsInside.{adds_as, adds_both, adds_none, component_inside, instance_inside, interface_same, items_next, other_inside, world_same}
use Rattle.wac_graph_causes.proofs.inside.+inside.Goals as goal

some_same : {A : Type 0} {x y : A} → Some x ≡ Some y → x ≡ y
some_same e = cc e

pub add_interface-add_items-requires : goal.add_interface-add_items-requires
add_interface-add_items-requires t c =
    let i = c.interface.ensures in
    let s = parts_size c.args.types.now i.acyclic c.args.id c.interface.result.now i.entry i.own in
    (omega (arith, s, c.decreases), (interface_exports_stand c.args.types.now i.acyclic c.args.id c.interface.result.now i.entry i.own, c.requires.worlds))

pub add_interface-returns : goal.add_interface-returns
add_interface-returns t c =
    let types = c.args.types.now in
    let i = c.interface.ensures in
    adds_as types _ _ c.args.worlds.now.items c.add_items.new.worlds.items (sym (instance_inside types i.acyclic c.args.id c.interface.result.now i.entry i.own)) c.in_ok-add_items.ensures

pub add_item-returns-in_default : goal.add_item-returns-in_default
add_item-returns-in_default t c =
    let types = c.args.types.now in
    let o = other_item c.args.item c.in_default.not-Instance c.in_default.not-Component c.in_default.not-Ty in
    adds_none types (imports_inside (stated_of types c.args.item)) c.args.worlds.now.items (other_inside types c.see_acyclic.ensures c.args.item c.requires.stands o) c.requires.worlds

pub add_items-add_item-requires : goal.add_items-add_item-requires
add_items-add_item-requires t c =
    let s = item_size c.args.types.now c.see_acyclic.ensures c.args.items.now c.loop-at.at c.entry.result.0.now c.entry.result.1.now c.entry.ensures c.requires.stand in
    (omega (arith, s, c.decreases), (c.requires.stand (c.entry.result.0.now, c.entry.result.1.now) (among-get c.args.items.now c.loop-at.at (c.entry.result.0.now, c.entry.result.1.now) c.entry.ensures), c.loop-at.invariant.stand))

pub add_items-loop-at-preserved : goal.add_items-loop-at-preserved
add_items-loop-at-preserved t c =
    let types = c.args.types.now in
    let old = c.args.worlds.now.items in
    let new = c.add_item.new.worlds.items in
    adds_as types _ _ old new (items_next types c.args.items.now c.loop-at.at c.entry.result.0.now c.entry.result.1.now c.entry.ensures)
    (adds_both types (inside_items types (take c.loop-at.at c.args.items.now)) (imports_inside (stated_of types c.entry.result.1.now)) old c.loop-at.worlds.items new c.loop-at.invariant c.in_ok-add_item.ensures)

pub add_type-add_interface-requires : goal.add_type-add_interface-requires
add_type-add_interface-requires t c =
    let types = c.args.types.now in
    let s : Stands types (ItemKind.Ty (TypeKind.Interface c.in-Interface.id)) = subst (λ ty. Stands types (ItemKind.Ty ty)) c.in-Interface.is c.requires.stands in
    let e = ap (λ ty. size_of types (ItemKind.Ty ty)) c.in-Interface.is in
    let k = interface_type_size types c.see_acyclic.ensures c.in-Interface.id s in
    (omega (arith, e, k, c.decreases), (stands_typed_interface types c.in-Interface.id s, c.requires.worlds))

pub add_type-add_world-requires : goal.add_type-add_world-requires
add_type-add_world-requires t c =
    let types = c.args.types.now in
    let s : Stands types (ItemKind.Ty (TypeKind.World c.in-World.id)) = subst (λ ty. Stands types (ItemKind.Ty ty)) c.in-World.is c.requires.stands in
    let e = ap (λ ty. size_of types (ItemKind.Ty ty)) c.in-World.is in
    let k = world_type_size types c.see_acyclic.ensures c.in-World.id s in
    (omega (arith, e, k, c.decreases), (stands_typed_world types c.in-World.id s, c.requires.worlds))

pub add_type-returns-in_ok-add_interface-in-Interface : goal.add_type-returns-in_ok-add_interface-in-Interface
add_type-returns-in_ok-add_interface-in-Interface t c =
    let types = c.args.types.now in
    let id = c.in-Interface.id in
    let s : Stands types (ItemKind.Ty (TypeKind.Interface id)) = subst (λ ty. Stands types (ItemKind.Ty ty)) c.in-Interface.is c.requires.stands in
    let same : imports_inside (stated_of types (ItemKind.Instance id)) ≡ imports_inside (stated_of types (ItemKind.Ty c.args.ty)) =
    sym (ap (λ ty. imports_inside (stated_of types (ItemKind.Ty ty))) c.in-Interface.is ∙ interface_same types c.see_acyclic.ensures id (stands_typed_interface types id s)) in
    adds_as types _ _ c.args.worlds.now.items c.add_interface.new.worlds.items same c.in_ok-add_interface-in-Interface.ensures

pub add_type-returns-in_ok-add_world-in-World : goal.add_type-returns-in_ok-add_world-in-World
add_type-returns-in_ok-add_world-in-World t c =
    let types = c.args.types.now in
    let id = c.in-World.id in
    let s : Stands types (ItemKind.Ty (TypeKind.World id)) = subst (λ ty. Stands types (ItemKind.Ty ty)) c.in-World.is c.requires.stands in
    let same : imports_inside (stated_of types (ItemKind.Component id)) ≡ imports_inside (stated_of types (ItemKind.Ty c.args.ty)) =
    sym (ap (λ ty. imports_inside (stated_of types (ItemKind.Ty ty))) c.in-World.is ∙ world_same types c.see_acyclic.ensures id (stands_typed_world types id s)) in
    adds_as types _ _ c.args.worlds.now.items c.add_world.new.worlds.items same c.in_ok-add_world-in-World.ensures

pub add_type-returns-in_default : goal.add_type-returns-in_default
add_type-returns-in_default t c =
    let types = c.args.types.now in
    let o = other_type c.args.ty c.in_default.not-Interface c.in_default.not-World in
    adds_none types (imports_inside (stated_of types (ItemKind.Ty c.args.ty))) c.args.worlds.now.items (other_inside types c.see_acyclic.ensures (ItemKind.Ty c.args.ty) c.requires.stands o) c.requires.worlds

pub add_world-add_items-requires : goal.add_world-add_items-requires
add_world-add_items-requires t c =
    let types = c.args.types.now in
    let w = c.world.ensures in
    let s = world_parts_size types w.acyclic c.args.id c.world.result.now w.entry w.own in
    (omega (arith, s, c.decreases), (world_imports_stand types w.acyclic c.args.id c.world.result.now w.entry w.own, c.in_ok-push_world.ensures.stand))

pub add_world-add_items-requires-2 : goal.add_world-add_items-requires-2
add_world-add_items-requires-2 t c =
    let types = c.args.types.now in
    let w = c.world-2.ensures in
    let s = world_parts_size types w.acyclic c.args.id c.world-2.result.now w.entry w.own in
    (omega (arith, s, c.decreases), (world_exports_stand types w.acyclic c.args.id c.world-2.result.now w.entry w.own, c.in_ok-add_items.ensures.stand))

pub add_world-returns : goal.add_world-returns
add_world-returns t c =
    let types = c.args.types.now in
    let w = c.world-2.ensures in
    let same : c.world.result.now ≡ c.world-2.result.now = some_same (sym c.world.ensures.entry ∙ w.entry) in
    let old = c.args.worlds.now.items in
    let one = c.push_world.new.worlds.items in
    let two = c.add_items.new.worlds.items in
    let new = c.add_items-2.new.worlds.items in
    let is = inside_items types c.world.result.now.imports in
    let es = inside_items types c.world-2.result.now.exports in
    adds_as types _ _ old new
    (ap (λ (x : World). world_imports types c.args.id ∷ (inside_items types x.imports ++ es)) same ∙ sym (component_inside types w.acyclic c.args.id c.world-2.result.now w.entry w.own))
    (adds_both types (world_imports types c.args.id ∷ []) (is ++ es) old one new c.in_ok-push_world.ensures
    (adds_both types is es one two new c.in_ok-add_items.ensures c.in_ok-add_items-2.ensures))
