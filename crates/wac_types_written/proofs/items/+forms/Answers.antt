use Rattle.std.proofs.Common.{refl, Some, ◌≡◌, ◌≤◌, ◌+◌, ◌∙◌, ap, arith, length, subst, sym, take, []}
use Rattle.std.specs.Prelude.{string_bytes}
use Rattle.wac_types_base.specs.declared.item.«Type».{«Type» as TypeKind}
use Rattle.wac_types_base.specs.declared.item.ItemKind.{ItemKind}
use Rattle.wac_types_base.specs.declared.ids.InterfaceId.{InterfaceId}
use Rattle.wac_types_base.specs.declared.defined.UsedType.{UsedType}
use Rattle.wac_types_base.specs.Collection.{Stands, size_of}
use Rattle.wac_types_base.specs.Entries.{IsNew, Name}
use Rattle.wac_types_base.specs.Stated.{stated_of}
use Rattle.wac_types_base.proofs.Adding.{Grows-refl, Grows-trans}
use Rattle.wac_types_base.proofs.Looked.{among-get, among-take}
use Rattle.wac_types_base.proofs.Loops.{take-all}
use Rattle.wac_types_base.proofs.Slots.{stands_typed_interface, stands_typed_world}
use Rattle.wac_types_written.specs.Forms.{AreFormed, IsOf, ItemsStand, UsesFormed, maker}
use Rattle.wac_types_written.specs.Written.{formed}
use Rattle.wac_types_written.proofs.Adding.{interface_added}
use Rattle.wac_types_written.proofs.Forming.{interface_formed, interface_type_formed, interface_type_size, item_name_new, other_item, other_type, items_next, items_none, use_name_new, uses_next, uses_none, world_formed, world_parts_size, world_type_formed, world_type_size}
use Rattle.wac_types_written.proofs.Growing.{forms_kept, items_size_kept, items_stand_kept, size_kept, stated_kept, uses_stand_kept}
use Rattle.wac_types_written.proofs.Ids.{interface_children, interface_exports_stand, interface_uses_stand, other_formed, world_exports_stand, world_imports_stand, world_uses_stand}
use Rattle.wac_types_written.proofs.Stepping.{item_size, parts_size, use_size}
use Rattle.wac_types_written.proofs.items.+forms.Goals as goal

pub form_interface-returns-in-Some-clause-grows : goal.form_interface-returns-in-Some-clause-grows
form_interface-returns-in-Some-clause-grows t c = Grows-refl c.args.types.now c.see_acyclic.ensures

pub form_interface-new_interface-requires : goal.form_interface-new_interface-requires
form_interface-new_interface-requires t c = (omega (arith, c.decreases), (c.requires.stands, c.requires.forms))

pub form_interface-keep_interface-requires-clause-stands : goal.form_interface-keep_interface-requires-clause-stands
form_interface-keep_interface-requires-clause-stands t c = c.in_ok-form.ensures.grows.stand (ItemKind.Instance c.args.id) c.requires.stands

pub form_interface-keep_interface-requires-clause-formed : goal.form_interface-keep_interface-requires-clause-formed
form_interface-keep_interface-requires-clause-formed t c =
    subst (λ x. IsOf c.new_interface.new.types x (ItemKind.Instance c.in_ok-form.form)) (ap (formed (maker c.args.worlds)) (sym (stated_kept c.args.types.now c.new_interface.new.types c.in_ok-form.ensures.grows (ItemKind.Instance c.args.id) c.requires.stands))) c.in_ok-form.ensures.formed

pub form_world-returns-in-Some-clause-grows : goal.form_world-returns-in-Some-clause-grows
form_world-returns-in-Some-clause-grows t c = Grows-refl c.args.types.now c.see_acyclic.ensures

pub form_world-new_world-requires : goal.form_world-new_world-requires
form_world-new_world-requires t c = (omega (arith, c.decreases), (c.requires.stands, c.requires.forms))

pub form_world-keep_world-requires-clause-stands : goal.form_world-keep_world-requires-clause-stands
form_world-keep_world-requires-clause-stands t c = c.in_ok-form.ensures.grows.stand (ItemKind.Component c.args.id) c.requires.stands

pub form_world-keep_world-requires-clause-formed : goal.form_world-keep_world-requires-clause-formed
form_world-keep_world-requires-clause-formed t c =
    subst (λ x. IsOf c.new_world.new.types x (ItemKind.Component c.in_ok-form.form)) (ap (formed (maker c.args.worlds)) (sym (stated_kept c.args.types.now c.new_world.new.types c.in_ok-form.ensures.grows (ItemKind.Component c.args.id) c.requires.stands))) c.in_ok-form.ensures.formed

pub form_item-form_interface-requires : goal.form_item-form_interface-requires
form_item-form_interface-requires t c =
    let s : Stands c.args.types.now (ItemKind.Instance c.in-Instance.id) = subst (Stands c.args.types.now) c.in-Instance.is c.requires.stands in
    let e = ap (λ k. size_of c.args.types.now k) c.in-Instance.is in
    (omega (arith, e, c.decreases), (s, c.requires.forms))

pub form_item-form_world-requires : goal.form_item-form_world-requires
form_item-form_world-requires t c =
    let s : Stands c.args.types.now (ItemKind.Component c.in-Component.id) = subst (Stands c.args.types.now) c.in-Component.is c.requires.stands in
    let e = ap (λ k. size_of c.args.types.now k) c.in-Component.is in
    (omega (arith, e, c.decreases), (s, c.requires.forms))

pub form_item-returns-in_ok-form-in-Instance-clause-formed : goal.form_item-returns-in_ok-form-in-Instance-clause-formed
form_item-returns-in_ok-form-in-Instance-clause-formed t c =
    subst (λ k. IsOf c.form_interface.new.types (formed (maker c.args.worlds) (stated_of c.args.types.now k)) (ItemKind.Instance c.in_ok-form-in-Instance.form)) (sym c.in-Instance.is) c.in_ok-form-in-Instance.ensures.formed

pub form_item-returns-in_ok-form-in-Component-clause-formed : goal.form_item-returns-in_ok-form-in-Component-clause-formed
form_item-returns-in_ok-form-in-Component-clause-formed t c =
    subst (λ k. IsOf c.form_world.new.types (formed (maker c.args.worlds) (stated_of c.args.types.now k)) (ItemKind.Component c.in_ok-form-in-Component.form)) (sym c.in-Component.is) c.in_ok-form-in-Component.ensures.formed

pub form_items-loop-at-init : goal.form_items-loop-at-init
form_items-loop-at-init t c = record {
  formed = subst (AreFormed (maker c.args.worlds) c.args.types.now []) (sym c.new-all.ensures) (items_none (maker c.args.worlds) c.args.types.now);
  forms = c.requires.forms;
  grows = Grows-refl c.args.types.now c.see_acyclic.ensures;
}

pub form_uses-loop-at-init : goal.form_uses-loop-at-init
form_uses-loop-at-init t c = record {
  formed = subst (UsesFormed (maker c.args.worlds) c.args.types.now []) (sym c.new-all.ensures) (uses_none (maker c.args.worlds) c.args.types.now);
  forms = c.requires.forms;
  grows = Grows-refl c.args.types.now c.see_acyclic.ensures;
}

pub form_items-entry-requires : goal.form_items-entry-requires
form_items-entry-requires t c = omega (arith, c.loop-at-test.true, c.len-at-end.ensures.len)

pub form_uses-entry-requires : goal.form_uses-entry-requires
form_uses-entry-requires t c = omega (arith, c.loop-at-test.true, c.len-at-end.ensures.len)

pub form_items-form_item-requires : goal.form_items-form_item-requires
form_items-form_item-requires t c =
    let e : Name × ItemKind = (c.entry.result.0.now, c.entry.result.1.now) in
    let g = c.loop-at.invariant.grows in
    let own = c.requires.stand e (among-get c.args.items.now c.loop-at.at e c.entry.ensures) in
    let s = item_size c.args.types.now c.see_acyclic.ensures c.args.items.now c.loop-at.at c.entry.result.0.now c.entry.result.1.now c.entry.ensures c.requires.stand in
    let k = size_kept c.args.types.now c.loop-at.types g c.entry.result.1.now own in
    (omega (arith, s, k, c.decreases), (g.stand c.entry.result.1.now own, c.loop-at.invariant.forms))

pub form_uses-form_interface-requires : goal.form_uses-form_interface-requires
form_uses-form_interface-requires t c =
    let e : Name × UsedType = (c.entry.result.0.now, c.entry.result.1.now) in
    let g = c.loop-at.invariant.grows in
    let own = c.requires.stand e (among-get c.args.uses.now c.loop-at.at e c.entry.ensures) in
    let s = use_size c.args.types.now c.see_acyclic.ensures c.args.uses.now c.loop-at.at c.entry.result.0.now c.entry.result.1.now c.entry.ensures c.requires.stand in
    let k = size_kept c.args.types.now c.loop-at.types g (ItemKind.Instance c.entry.result.1.now.interface) own in
    (omega (arith, s, k, c.decreases), (g.stand (ItemKind.Instance c.entry.result.1.now.interface) own, c.loop-at.invariant.forms))

pub form_items-returns-in_err-form-clause-grows : goal.form_items-returns-in_err-form-clause-grows
form_items-returns-in_err-form-clause-grows t c = Grows-trans c.args.types.now c.loop-at.types c.form_item.new.types c.loop-at.invariant.grows c.in_err-form.ensures.grows

pub form_items-returns-in_err-from_str-clause-grows : goal.form_items-returns-in_err-from_str-clause-grows
form_items-returns-in_err-from_str-clause-grows t c = Grows-trans c.args.types.now c.loop-at.types c.form_item.new.types c.loop-at.invariant.grows c.in_ok-form.ensures.grows

pub form_items-returns-in_err-push-clause-grows : goal.form_items-returns-in_err-push-clause-grows
form_items-returns-in_err-push-clause-grows t c = Grows-trans c.args.types.now c.loop-at.types c.form_item.new.types c.loop-at.invariant.grows c.in_ok-form.ensures.grows

pub form_uses-returns-in_err-interface-clause-grows : goal.form_uses-returns-in_err-interface-clause-grows
form_uses-returns-in_err-interface-clause-grows t c = Grows-trans c.args.types.now c.loop-at.types c.form_interface.new.types c.loop-at.invariant.grows c.in_err-interface.ensures.grows

pub form_uses-returns-in_err-used-clause-grows : goal.form_uses-returns-in_err-used-clause-grows
form_uses-returns-in_err-used-clause-grows t c = Grows-trans c.args.types.now c.loop-at.types c.form_interface.new.types c.loop-at.invariant.grows c.in_ok-interface.ensures.grows

pub form_uses-returns-in_err-from_str-clause-grows : goal.form_uses-returns-in_err-from_str-clause-grows
form_uses-returns-in_err-from_str-clause-grows t c = Grows-trans c.args.types.now c.loop-at.types c.form_interface.new.types c.loop-at.invariant.grows c.in_ok-interface.ensures.grows

pub form_uses-returns-in_err-push-clause-grows : goal.form_uses-returns-in_err-push-clause-grows
form_uses-returns-in_err-push-clause-grows t c = Grows-trans c.args.types.now c.loop-at.types c.form_interface.new.types c.loop-at.invariant.grows c.in_ok-interface.ensures.grows

pub form_items-push-requires : goal.form_items-push-requires
form_items-push-requires t c =
    subst (λ n. IsNew n c.loop-at.all) (sym c.in_ok-from_str.ensures.ok) (item_name_new (maker c.args.worlds) c.loop-at.types c.args.items.now c.loop-at.all c.loop-at.at c.entry.result.0.now c.entry.result.1.now c.len-at-end.ensures.distinct c.loop-at.invariant.formed c.entry.ensures)

pub form_uses-push-requires : goal.form_uses-push-requires
form_uses-push-requires t c =
    subst (λ n. IsNew n c.loop-at.all) (sym c.in_ok-from_str.ensures.ok) (use_name_new (maker c.args.worlds) c.loop-at.types c.args.uses.now c.loop-at.all c.loop-at.at c.entry.result.0.now c.entry.result.1.now c.len-at-end.ensures.distinct c.loop-at.invariant.formed c.entry.ensures)

pub form_items-loop-at-preserved : goal.form_items-loop-at-preserved
form_items-loop-at-preserved t c =
    let e : Name × ItemKind = (c.entry.result.0.now, c.entry.result.1.now) in
    let g = c.loop-at.invariant.grows in
    let own = items_stand_kept c.args.types.now c.loop-at.types g c.args.items.now c.requires.stand in
    record {
      formed = subst (AreFormed (maker c.args.worlds) c.form_item.new.types (take (c.loop-at.at + 1) c.args.items.now)) (sym c.in_ok-push.ensures.ok)
          (items_next (maker c.args.worlds) c.loop-at.types c.form_item.new.types c.in_ok-form.ensures.grows c.args.items.now c.loop-at.all c.loop-at.at c.entry.result.0.now (string_bytes c.in_ok-from_str.field-0) c.entry.result.1.now c.in_ok-form.form own c.entry.ensures
          (own e (among-get c.args.items.now c.loop-at.at e c.entry.ensures)) c.in_ok-from_str.ensures.ok c.loop-at.invariant.formed (λ x m. own x (among-take x c.args.items.now c.loop-at.at m)) c.in_ok-form.ensures.formed);
      forms = c.in_ok-form.ensures.forms;
      grows = Grows-trans c.args.types.now c.loop-at.types c.form_item.new.types g c.in_ok-form.ensures.grows;
    }

pub form_uses-loop-at-preserved : goal.form_uses-loop-at-preserved
form_uses-loop-at-preserved t c =
    let e : Name × UsedType = (c.entry.result.0.now, c.entry.result.1.now) in
    let g = c.loop-at.invariant.grows in
    let own = uses_stand_kept c.args.types.now c.loop-at.types g c.args.uses.now c.requires.stand in
    let made : c.in_ok-used.used ≡ record { interface = c.in_ok-interface.interface; name = c.entry.result.1.now.name } = c.in_ok-used.ensures in
    record {
      formed = subst (UsesFormed (maker c.args.worlds) c.form_interface.new.types (take (c.loop-at.at + 1) c.args.uses.now)) (sym c.in_ok-push.ensures.ok)
          (uses_next (maker c.args.worlds) c.loop-at.types c.form_interface.new.types c.in_ok-interface.ensures.grows c.args.uses.now c.loop-at.all c.loop-at.at c.entry.result.0.now (string_bytes c.in_ok-from_str.field-0) c.entry.result.1.now c.in_ok-used.used c.entry.ensures
          (own e (among-get c.args.uses.now c.loop-at.at e c.entry.ensures)) c.in_ok-from_str.ensures.ok c.loop-at.invariant.formed (λ x m. own x (among-take x c.args.uses.now c.loop-at.at m))
          (ap (λ (u : UsedType). u.name) made) (subst (λ (i : InterfaceId). IsOf c.form_interface.new.types (formed (maker c.args.worlds) (stated_of c.loop-at.types (ItemKind.Instance c.entry.result.1.now.interface))) (ItemKind.Instance i)) (sym (ap (λ (u : UsedType). u.interface) made)) c.in_ok-interface.ensures.formed));
      forms = c.in_ok-interface.ensures.forms;
      grows = Grows-trans c.args.types.now c.loop-at.types c.form_interface.new.types g c.in_ok-interface.ensures.grows;
    }

pub form_items-returns-clause-formed : goal.form_items-returns-clause-formed
form_items-returns-clause-formed t c =
    let whole : length c.args.items.now ≤ c.loop-at.at = omega (arith, c.loop-at-test.false, c.len-at-end.ensures.len) in
    subst (λ l. AreFormed (maker c.args.worlds) c.loop-at.types l c.loop-at.all) (take-all c.args.items.now c.loop-at.at whole) c.loop-at.invariant.formed

pub form_uses-returns-clause-formed : goal.form_uses-returns-clause-formed
form_uses-returns-clause-formed t c =
    let whole : length c.args.uses.now ≤ c.loop-at.at = omega (arith, c.loop-at-test.false, c.len-at-end.ensures.len) in
    subst (λ l. UsesFormed (maker c.args.worlds) c.loop-at.types l c.loop-at.all) (take-all c.args.uses.now c.loop-at.at whole) c.loop-at.invariant.formed

pub new_interface-returns-in_err-own-clause-grows : goal.new_interface-returns-in_err-own-clause-grows
new_interface-returns-in_err-own-clause-grows t c = Grows-refl c.args.types.now c.see_acyclic.ensures

pub new_world-returns-in_err-own-clause-grows : goal.new_world-returns-in_err-own-clause-grows
new_world-returns-in_err-own-clause-grows t c = Grows-refl c.args.types.now c.see_acyclic.ensures

pub interface_of_parts-form_uses-requires : goal.interface_of_parts-form_uses-requires
interface_of_parts-form_uses-requires t c =
    let types = c.args.types.now in
    let x = c.args.own.now in
    let s = parts_size types c.see_acyclic.ensures c.args.id x c.requires.entry c.requires.number in
    (omega (arith, s, c.decreases), (interface_uses_stand types c.see_acyclic.ensures c.args.id x c.requires.entry c.requires.number, c.requires.forms))

pub interface_of_parts-form_items-requires : goal.interface_of_parts-form_items-requires
interface_of_parts-form_items-requires t c =
    let types = c.args.types.now in
    let x = c.args.own.now in
    let g = c.in_ok-uses.ensures.grows in
    let s = parts_size types c.see_acyclic.ensures c.args.id x c.requires.entry c.requires.number in
    let stand : ItemsStand types x.exports = interface_exports_stand types c.see_acyclic.ensures c.args.id x c.requires.entry c.requires.number in
    let k = items_size_kept types c.form_uses.new.types g x.exports stand in
    (omega (arith, s, k, c.decreases), (items_stand_kept types c.form_uses.new.types g x.exports stand, c.in_ok-uses.ensures.forms))

pub interface_of_parts-returns-in_err-name-clause-grows : goal.interface_of_parts-returns-in_err-name-clause-grows
interface_of_parts-returns-in_err-name-clause-grows t c = Grows-trans c.args.types.now c.form_uses.new.types c.form_items.new.types c.in_ok-uses.ensures.grows c.in_ok-exports.ensures.grows

pub interface_of_parts-add_interface-requires : goal.interface_of_parts-add_interface-requires
interface_of_parts-add_interface-requires t c =
    interface_children c.form_items.new.types (record { id = c.in_ok-name.name; uses = c.in_ok-uses.uses; exports = c.in_ok-exports.exports })
    (uses_stand_kept c.form_uses.new.types c.form_items.new.types c.in_ok-exports.ensures.grows c.in_ok-uses.uses c.in_ok-uses.ensures.formed.stand) c.in_ok-exports.ensures.formed.stand

pub interface_of_parts-returns-in_err-exports-clause-grows : goal.interface_of_parts-returns-in_err-exports-clause-grows
interface_of_parts-returns-in_err-exports-clause-grows t c = Grows-trans c.args.types.now c.form_uses.new.types c.form_items.new.types c.in_ok-uses.ensures.grows c.in_err-exports.ensures.grows

pub interface_of_parts-returns-in_err-form-clause-grows : goal.interface_of_parts-returns-in_err-form-clause-grows
interface_of_parts-returns-in_err-form-clause-grows t c =
    Grows-trans c.args.types.now c.form_uses.new.types c.add_interface.new.self c.in_ok-uses.ensures.grows (Grows-trans c.form_uses.new.types c.form_items.new.types c.add_interface.new.self c.in_ok-exports.ensures.grows c.in_err-form.ensures.grows)

pub interface_of_parts-returns-clause-formed : goal.interface_of_parts-returns-clause-formed
interface_of_parts-returns-clause-formed t c =
    let types = c.args.types.now in
    let x = c.args.own.now in
    let e = c.in_ok-form.ensures in
    interface_added c.form_items.new.types c.add_interface.new.self e.grows (record { id = c.in_ok-name.name; uses = c.in_ok-uses.uses; exports = c.in_ok-exports.exports }) c.in_ok-form.form
    (formed (maker c.args.worlds) (stated_of types (ItemKind.Instance c.args.id))) e.added e.id
    (interface_formed (maker c.args.worlds) types c.see_acyclic.ensures c.form_uses.new.types c.form_items.new.types c.add_interface.new.self c.in_ok-uses.ensures.grows c.in_ok-exports.ensures.grows e.grows c.args.id x c.requires.entry c.requires.number
    c.in_ok-name.name x.uses c.in_ok-uses.uses x.exports c.in_ok-exports.exports (c.in_ok-name.ensures)
    refl refl
    (interface_uses_stand types c.see_acyclic.ensures c.args.id x c.requires.entry c.requires.number)
    (interface_exports_stand types c.see_acyclic.ensures c.args.id x c.requires.entry c.requires.number)
    c.in_ok-uses.ensures.formed c.in_ok-exports.ensures.formed)

pub interface_of_parts-returns-clause-forms : goal.interface_of_parts-returns-clause-forms
interface_of_parts-returns-clause-forms t c = forms_kept (maker c.args.worlds) c.form_items.new.types c.add_interface.new.self c.in_ok-form.ensures.grows c.form_items.new.forms c.in_ok-exports.ensures.forms

pub interface_of_parts-returns-clause-grows : goal.interface_of_parts-returns-clause-grows
interface_of_parts-returns-clause-grows t c =
    Grows-trans c.args.types.now c.form_uses.new.types c.add_interface.new.self c.in_ok-uses.ensures.grows (Grows-trans c.form_uses.new.types c.form_items.new.types c.add_interface.new.self c.in_ok-exports.ensures.grows c.in_ok-form.ensures.grows)

pub world_of_parts-form_uses-requires : goal.world_of_parts-form_uses-requires
world_of_parts-form_uses-requires t c =
    let types = c.args.types.now in
    let x = c.args.own.now in
    let s = world_parts_size types c.see_acyclic.ensures c.args.id x c.requires.entry c.requires.number in
    (omega (arith, s, c.decreases), (world_uses_stand types c.see_acyclic.ensures c.args.id x c.requires.entry c.requires.number, c.requires.forms))

pub world_of_parts-form_items-requires : goal.world_of_parts-form_items-requires
world_of_parts-form_items-requires t c =
    let types = c.args.types.now in
    let x = c.args.own.now in
    let g = c.in_ok-uses.ensures.grows in
    let s = world_parts_size types c.see_acyclic.ensures c.args.id x c.requires.entry c.requires.number in
    let stand : ItemsStand types x.imports = world_imports_stand types c.see_acyclic.ensures c.args.id x c.requires.entry c.requires.number in
    let k = items_size_kept types c.form_uses.new.types g x.imports stand in
    (omega (arith, s, k, c.decreases), (items_stand_kept types c.form_uses.new.types g x.imports stand, c.in_ok-uses.ensures.forms))

pub world_of_parts-form_items-requires-2 : goal.world_of_parts-form_items-requires-2
world_of_parts-form_items-requires-2 t c =
    let types = c.args.types.now in
    let x = c.args.own.now in
    let g = Grows-trans types c.form_uses.new.types c.form_items.new.types c.in_ok-uses.ensures.grows c.in_ok-imports.ensures.grows in
    let s = world_parts_size types c.see_acyclic.ensures c.args.id x c.requires.entry c.requires.number in
    let stand : ItemsStand types x.exports = world_exports_stand types c.see_acyclic.ensures c.args.id x c.requires.entry c.requires.number in
    let k = items_size_kept types c.form_items.new.types g x.exports stand in
    (omega (arith, s, k, c.decreases), (items_stand_kept types c.form_items.new.types g x.exports stand, c.in_ok-imports.ensures.forms))

pub world_of_parts-add_formed_world-requires-clause-uses : goal.world_of_parts-add_formed_world-requires-clause-uses
world_of_parts-add_formed_world-requires-clause-uses t c = uses_stand_kept c.form_uses.new.types c.form_items-2.new.types (Grows-trans c.form_uses.new.types c.form_items.new.types c.form_items-2.new.types c.in_ok-imports.ensures.grows c.in_ok-exports.ensures.grows) c.in_ok-uses.uses c.in_ok-uses.ensures.formed.stand

pub world_of_parts-add_formed_world-requires-clause-imports : goal.world_of_parts-add_formed_world-requires-clause-imports
world_of_parts-add_formed_world-requires-clause-imports t c = items_stand_kept c.form_items.new.types c.form_items-2.new.types c.in_ok-exports.ensures.grows c.in_ok-imports.imports c.in_ok-imports.ensures.formed.stand

pub world_of_parts-add_formed_world-requires-clause-exports : goal.world_of_parts-add_formed_world-requires-clause-exports
world_of_parts-add_formed_world-requires-clause-exports t c = c.in_ok-exports.ensures.formed.stand

pub world_of_parts-returns-in_err-imports-clause-grows : goal.world_of_parts-returns-in_err-imports-clause-grows
world_of_parts-returns-in_err-imports-clause-grows t c = Grows-trans c.args.types.now c.form_uses.new.types c.form_items.new.types c.in_ok-uses.ensures.grows c.in_err-imports.ensures.grows

pub world_of_parts-returns-in_err-exports-clause-grows : goal.world_of_parts-returns-in_err-exports-clause-grows
world_of_parts-returns-in_err-exports-clause-grows t c =
    Grows-trans c.args.types.now c.form_uses.new.types c.form_items-2.new.types c.in_ok-uses.ensures.grows (Grows-trans c.form_uses.new.types c.form_items.new.types c.form_items-2.new.types c.in_ok-imports.ensures.grows c.in_err-exports.ensures.grows)

pub world_of_parts-returns-in_err-name-clause-grows : goal.world_of_parts-returns-in_err-name-clause-grows
world_of_parts-returns-in_err-name-clause-grows t c =
    Grows-trans c.args.types.now c.form_uses.new.types c.form_items-2.new.types c.in_ok-uses.ensures.grows (Grows-trans c.form_uses.new.types c.form_items.new.types c.form_items-2.new.types c.in_ok-imports.ensures.grows c.in_ok-exports.ensures.grows)

pub world_of_parts-returns-in_err-form-clause-grows : goal.world_of_parts-returns-in_err-form-clause-grows
world_of_parts-returns-in_err-form-clause-grows t c =
    Grows-trans c.args.types.now c.form_uses.new.types c.add_formed_world.new.types c.in_ok-uses.ensures.grows
    (Grows-trans c.form_uses.new.types c.form_items.new.types c.add_formed_world.new.types c.in_ok-imports.ensures.grows
    (Grows-trans c.form_items.new.types c.form_items-2.new.types c.add_formed_world.new.types c.in_ok-exports.ensures.grows c.in_err-form.ensures.grows))

pub world_of_parts-returns-clause-formed : goal.world_of_parts-returns-clause-formed
world_of_parts-returns-clause-formed t c =
    let types = c.args.types.now in
    let x = c.args.own.now in
    subst (λ y. IsOf c.add_formed_world.new.types y (ItemKind.Component c.in_ok-form.form))
    (world_formed (maker c.args.worlds) types c.see_acyclic.ensures c.form_uses.new.types c.form_items.new.types c.form_items-2.new.types c.add_formed_world.new.types c.in_ok-uses.ensures.grows c.in_ok-imports.ensures.grows c.in_ok-exports.ensures.grows c.args.id x c.requires.entry c.requires.number
    c.in_ok-name.name x.uses c.in_ok-uses.uses x.imports c.in_ok-imports.imports x.exports c.in_ok-exports.exports (c.in_ok-name.ensures)
    refl refl refl
    (world_uses_stand types c.see_acyclic.ensures c.args.id x c.requires.entry c.requires.number)
    (world_imports_stand types c.see_acyclic.ensures c.args.id x c.requires.entry c.requires.number)
    (world_exports_stand types c.see_acyclic.ensures c.args.id x c.requires.entry c.requires.number)
    c.in_ok-uses.ensures.formed c.in_ok-imports.ensures.formed c.in_ok-exports.ensures.formed)
    c.in_ok-form.ensures.world

pub world_of_parts-returns-clause-forms : goal.world_of_parts-returns-clause-forms
world_of_parts-returns-clause-forms t c = forms_kept (maker c.args.worlds) c.form_items-2.new.types c.add_formed_world.new.types c.in_ok-form.ensures.grows c.form_items-2.new.forms c.in_ok-exports.ensures.forms

pub world_of_parts-returns-clause-grows : goal.world_of_parts-returns-clause-grows
world_of_parts-returns-clause-grows t c =
    Grows-trans c.args.types.now c.form_uses.new.types c.add_formed_world.new.types c.in_ok-uses.ensures.grows
    (Grows-trans c.form_uses.new.types c.form_items.new.types c.add_formed_world.new.types c.in_ok-imports.ensures.grows
    (Grows-trans c.form_items.new.types c.form_items-2.new.types c.add_formed_world.new.types c.in_ok-exports.ensures.grows c.in_ok-form.ensures.grows))

pub form_item-form_type-requires : goal.form_item-form_type-requires
form_item-form_type-requires t c =
    let s : Stands c.args.types.now (ItemKind.Ty c.in-Ty.ty) = subst (Stands c.args.types.now) c.in-Ty.is c.requires.stands in
    let e = ap (λ k. size_of c.args.types.now k) c.in-Ty.is in
    (omega (arith, e, c.decreases), (s, c.requires.forms))

pub form_item-returns-in_ok-form-in-Ty-clause-formed : goal.form_item-returns-in_ok-form-in-Ty-clause-formed
form_item-returns-in_ok-form-in-Ty-clause-formed t c =
    subst (λ k. IsOf c.form_type.new.types (formed (maker c.args.worlds) (stated_of c.args.types.now k)) (ItemKind.Ty c.in_ok-form-in-Ty.form)) (sym c.in-Ty.is) c.in_ok-form-in-Ty.ensures.formed

pub form_item-returns-in_default-clause-formed : goal.form_item-returns-in_default-clause-formed
form_item-returns-in_default-clause-formed t c =
    let o = other_item c.args.item c.in_default.not-Instance c.in_default.not-Component c.in_default.not-Ty in
    record { stands = c.requires.stands; states = sym (other_formed c.args.types.now c.see_acyclic.ensures (maker c.args.worlds) c.args.item c.requires.stands o) }

pub form_item-returns-in_default-clause-grows : goal.form_item-returns-in_default-clause-grows
form_item-returns-in_default-clause-grows t c = Grows-refl c.args.types.now c.see_acyclic.ensures

pub form_type-form_interface-requires : goal.form_type-form_interface-requires
form_type-form_interface-requires t c =
    let types = c.args.types.now in
    let s : Stands types (ItemKind.Ty (TypeKind.Interface c.in-Interface.id)) = subst (λ ty. Stands types (ItemKind.Ty ty)) c.in-Interface.is c.requires.stands in
    let e = ap (λ ty. size_of types (ItemKind.Ty ty)) c.in-Interface.is in
    let k = interface_type_size types c.see_acyclic.ensures c.in-Interface.id s in
    (omega (arith, e, k, c.decreases), (stands_typed_interface types c.in-Interface.id s, c.requires.forms))

pub form_type-form_world-requires : goal.form_type-form_world-requires
form_type-form_world-requires t c =
    let types = c.args.types.now in
    let s : Stands types (ItemKind.Ty (TypeKind.World c.in-World.id)) = subst (λ ty. Stands types (ItemKind.Ty ty)) c.in-World.is c.requires.stands in
    let e = ap (λ ty. size_of types (ItemKind.Ty ty)) c.in-World.is in
    let k = world_type_size types c.see_acyclic.ensures c.in-World.id s in
    (omega (arith, e, k, c.decreases), (stands_typed_world types c.in-World.id s, c.requires.forms))

pub form_type-returns-in_ok-form-in-Interface-clause-formed : goal.form_type-returns-in_ok-form-in-Interface-clause-formed
form_type-returns-in_ok-form-in-Interface-clause-formed t c =
    let types = c.args.types.now in
    let s : Stands types (ItemKind.Ty (TypeKind.Interface c.in-Interface.id)) = subst (λ ty. Stands types (ItemKind.Ty ty)) c.in-Interface.is c.requires.stands in
    subst (λ ty. IsOf c.form_interface.new.types (formed (maker c.args.worlds) (stated_of types (ItemKind.Ty ty))) (ItemKind.Ty (TypeKind.Interface c.in_ok-form-in-Interface.form))) (sym c.in-Interface.is)
    (interface_type_formed (maker c.args.worlds) types c.see_acyclic.ensures c.form_interface.new.types c.in_ok-form-in-Interface.ensures.grows.acyclic c.in-Interface.id c.in_ok-form-in-Interface.form (stands_typed_interface types c.in-Interface.id s) c.in_ok-form-in-Interface.ensures.formed)

pub form_type-returns-in_ok-form-in-World-clause-formed : goal.form_type-returns-in_ok-form-in-World-clause-formed
form_type-returns-in_ok-form-in-World-clause-formed t c =
    let types = c.args.types.now in
    let s : Stands types (ItemKind.Ty (TypeKind.World c.in-World.id)) = subst (λ ty. Stands types (ItemKind.Ty ty)) c.in-World.is c.requires.stands in
    subst (λ ty. IsOf c.form_world.new.types (formed (maker c.args.worlds) (stated_of types (ItemKind.Ty ty))) (ItemKind.Ty (TypeKind.World c.in_ok-form-in-World.form))) (sym c.in-World.is)
    (world_type_formed (maker c.args.worlds) types c.see_acyclic.ensures c.form_world.new.types c.in_ok-form-in-World.ensures.grows.acyclic c.in-World.id c.in_ok-form-in-World.form (stands_typed_world types c.in-World.id s) c.in_ok-form-in-World.ensures.formed)

pub form_type-returns-in_default-clause-formed : goal.form_type-returns-in_default-clause-formed
form_type-returns-in_default-clause-formed t c =
    let o = other_type c.args.ty c.in_default.not-Interface c.in_default.not-World in
    record { stands = c.requires.stands; states = sym (other_formed c.args.types.now c.see_acyclic.ensures (maker c.args.worlds) (ItemKind.Ty c.args.ty) c.requires.stands o) }

pub form_type-returns-in_default-clause-grows : goal.form_type-returns-in_default-clause-grows
form_type-returns-in_default-clause-grows t c = Grows-refl c.args.types.now c.see_acyclic.ensures

pub new_interface-interface_of_parts-requires : goal.new_interface-interface_of_parts-requires
new_interface-interface_of_parts-requires t c =
    let i = c.interface.ensures in
    (omega (arith, c.decreases), (i.entry ∙ ap Some (sym c.in_ok-own.ensures), (i.own, c.requires.forms)))

pub new_world-world_of_parts-requires : goal.new_world-world_of_parts-requires
new_world-world_of_parts-requires t c =
    let i = c.world.ensures in
    (omega (arith, c.decreases), (i.entry ∙ ap Some (sym c.in_ok-own.ensures), (i.own, c.requires.forms)))
