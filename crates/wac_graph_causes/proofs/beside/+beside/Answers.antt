use Rattle.std.proofs.Common.{◌+◌, ◌∙◌, ap, arith, subst, sym, take}
use Rattle.std.specs.Prelude.{string_bytes}
use Rattle.wac_types_base.specs.declared.item.«Type».{«Type» as TypeKind}
use Rattle.wac_types_base.specs.declared.item.ItemKind.{ItemKind}
use Rattle.wac_types_base.specs.declared.defined.Interface.{Interface}
use Rattle.wac_types_base.specs.Collection.{Stands, items, size_of}
use Rattle.wac_types_base.specs.Entries.{IsNew, Name}
use Rattle.wac_types_base.specs.Stated.{stated_of}
use Rattle.wac_types_base.proofs.Adding.{Grows-refl, Grows-trans}
use Rattle.wac_types_base.proofs.Looked.{among-get}
use Rattle.wac_types_base.proofs.Slots.{stands_typed_interface}
use Rattle.wac_types_base.proofs.Telling.{row_size}
use Rattle.wac_types_written.specs.Forms.{ItemsStand, UsesStand}
use Rattle.wac_types_written.proofs.Adding.{interface_added}
use Rattle.wac_types_written.proofs.Forming.{interface_type_size}
use Rattle.wac_types_written.proofs.Growing.{size_kept, uses_stand_kept}
use Rattle.wac_types_written.proofs.Ids.{interface_children, interface_exports_stand, interface_uses_stand}
use Rattle.wac_types_written.proofs.Stepping.{item_size, parts_size}
use Rattle.wac_composition.specs.Circles.{beside}
use Rattle.wac_graph_causes.specs.Beside.{AreBeside, IsBeside}
use Rattle.wac_graph_causes.specs.Standing.{stands_by}
use Rattle.wac_graph_causes.proofs.Besides.{interface_made, item_name_new, items_next, no_instance, no_instance_type, other_beside, type_made, uses_stand}
use Rattle.wac_graph_causes.proofs.beside.+beside.Goals as goal

pub beside-returns-in_default : goal.beside-returns-in_default
beside-returns-in_default t c = record {
  beside = other_beside (stands_by c.args.standing) c.args.types.now c.see_acyclic.ensures c.args.item c.requires (no_instance c.args.item c.in_default.not-Instance c.in_default.not-Ty);
  grows = Grows-refl c.args.types.now c.see_acyclic.ensures;
}

pub beside_interface-beside_items-requires : goal.beside_interface-beside_items-requires
beside_interface-beside_items-requires t c =
    let types = c.args.types.now in
    let i = c.interface.ensures in
    let x = c.interface.result.now in
    let s = parts_size types i.acyclic c.args.id x i.entry i.own in
    let e = ap (λ xs. row_size types (items xs)) (ap (λ (y : Interface). y.exports) c.in_ok-own.ensures) in
    (omega (arith, s, e, c.decreases), subst (ItemsStand types) (sym (ap (λ (y : Interface). y.exports) c.in_ok-own.ensures)) (interface_exports_stand types i.acyclic c.args.id x i.entry i.own))

pub beside_interface-add_interface-requires : goal.beside_interface-add_interface-requires
beside_interface-add_interface-requires t c =
    let types = c.args.types.now in
    let stands = stands_by c.args.standing in
    let i = c.interface.ensures in
    let g = c.in_ok-exports.ensures.grows in
    let own : UsesStand types c.in_ok-own.own.uses = subst (UsesStand types) (sym (ap (λ (y : Interface). y.uses) c.in_ok-own.ensures)) (interface_uses_stand types i.acyclic c.args.id c.interface.result.now i.entry i.own) in
    let made : UsesStand types c.in_ok-uses.uses = subst (UsesStand types) (sym c.in_ok-uses.ensures) (uses_stand stands types i.acyclic c.in_ok-own.own.uses own) in
    interface_children c.beside_items.new.types (record { id = c.in_ok-name.name; uses = c.in_ok-uses.uses; exports = c.in_ok-exports.exports })
    (uses_stand_kept types c.beside_items.new.types g c.in_ok-uses.uses made) c.in_ok-exports.ensures.beside.stand

pub beside_interface-returns-clause-beside : goal.beside_interface-returns-clause-beside
beside_interface-returns-clause-beside t c =
    let types = c.args.types.now in
    let stands = stands_by c.args.standing in
    let i = c.interface.ensures in
    let e = c.in_ok-made.ensures in
    let g = c.in_ok-exports.ensures.grows in
    interface_added c.beside_items.new.types c.add_interface.new.self e.grows (record { id = c.in_ok-name.name; uses = c.in_ok-uses.uses; exports = c.in_ok-exports.exports }) c.in_ok-made.made
    (beside stands (stated_of types (ItemKind.Instance c.args.id))) e.added e.id
    (interface_made stands types i.acyclic c.beside_items.new.types c.add_interface.new.self g e.grows c.args.id c.interface.result.now i.entry i.own
    c.in_ok-name.name c.in_ok-own.own.uses c.in_ok-uses.uses c.in_ok-own.own.exports c.in_ok-exports.exports (c.in_ok-name.ensures ∙ ap (λ (y : Interface). y.id) c.in_ok-own.ensures)
    (ap (λ (y : Interface). y.uses) c.in_ok-own.ensures) (ap (λ (y : Interface). y.exports) c.in_ok-own.ensures) c.in_ok-uses.ensures c.in_ok-exports.ensures.beside)

pub beside_items-beside-requires : goal.beside_items-beside-requires
beside_items-beside-requires t c =
    let e : Name × ItemKind = (c.entry.result.0.now, c.entry.result.1.now) in
    let g = c.loop-at.invariant.grows in
    let own = c.requires e (among-get c.args.items.now c.loop-at.at e c.entry.ensures) in
    let s = item_size c.args.types.now c.see_acyclic.ensures c.args.items.now c.loop-at.at c.entry.result.0.now c.entry.result.1.now c.entry.ensures c.requires in
    let k = size_kept c.args.types.now c.loop-at.types g c.entry.result.1.now own in
    (omega (arith, s, k, c.decreases), g.stand c.entry.result.1.now own)

pub beside_items-push-requires : goal.beside_items-push-requires
beside_items-push-requires t c =
    subst (λ n. IsNew n c.loop-at.all) (sym c.in_ok-from_str.ensures.ok) (item_name_new (stands_by c.args.standing) c.args.types.now c.loop-at.types c.args.items.now c.loop-at.all c.loop-at.at c.entry.result.0.now c.entry.result.1.now c.len-at-end.ensures.distinct c.loop-at.invariant.beside c.entry.ensures)

pub beside_items-loop-at-preserved : goal.beside_items-loop-at-preserved
beside_items-loop-at-preserved t c =
    let types = c.args.types.now in
    let stands = stands_by c.args.standing in
    let e : Name × ItemKind = (c.entry.result.0.now, c.entry.result.1.now) in
    let g = c.loop-at.invariant.grows in
    let own = c.requires e (among-get c.args.items.now c.loop-at.at e c.entry.ensures) in
    record {
      beside = subst (AreBeside stands types c.beside.new.types (take (c.loop-at.at + 1) c.args.items.now)) (sym c.in_ok-push.ensures.ok)
          (items_next stands types c.loop-at.types c.beside.new.types g c.in_ok-made.ensures.grows c.args.items.now c.loop-at.all c.loop-at.at c.entry.result.0.now (string_bytes c.in_ok-from_str.field-0) c.entry.result.1.now c.in_ok-made.made
          c.entry.ensures own c.in_ok-from_str.ensures.ok c.loop-at.invariant.beside c.in_ok-made.ensures.beside);
      grows = Grows-trans types c.loop-at.types c.beside.new.types g c.in_ok-made.ensures.grows;
    }

pub beside_type-beside_interface-requires : goal.beside_type-beside_interface-requires
beside_type-beside_interface-requires t c =
    let types = c.args.types.now in
    let s : Stands types (ItemKind.Ty (TypeKind.Interface c.in-Interface.id)) = subst (λ ty. Stands types (ItemKind.Ty ty)) c.in-Interface.is c.requires in
    let e = ap (λ ty. size_of types (ItemKind.Ty ty)) c.in-Interface.is in
    let k = interface_type_size types c.see_acyclic.ensures c.in-Interface.id s in
    (omega (arith, e, k, c.decreases), stands_typed_interface types c.in-Interface.id s)

pub beside_type-returns-in_ok-made-in-Interface-clause-beside : goal.beside_type-returns-in_ok-made-in-Interface-clause-beside
beside_type-returns-in_ok-made-in-Interface-clause-beside t c =
    let types = c.args.types.now in
    let stands = stands_by c.args.standing in
    let s : Stands types (ItemKind.Ty (TypeKind.Interface c.in-Interface.id)) = subst (λ ty. Stands types (ItemKind.Ty ty)) c.in-Interface.is c.requires in
    subst (λ ty. IsBeside stands types c.beside_interface.new.types (ItemKind.Ty ty) (ItemKind.Ty (TypeKind.Interface c.in_ok-made-in-Interface.made))) (sym c.in-Interface.is)
    (type_made stands types c.see_acyclic.ensures c.beside_interface.new.types c.in_ok-made-in-Interface.ensures.grows.acyclic c.in-Interface.id c.in_ok-made-in-Interface.made (stands_typed_interface types c.in-Interface.id s) c.in_ok-made-in-Interface.ensures.beside)

pub beside_type-returns-in_default : goal.beside_type-returns-in_default
beside_type-returns-in_default t c = record {
  beside = other_beside (stands_by c.args.standing) c.args.types.now c.see_acyclic.ensures (ItemKind.Ty c.args.ty) c.requires (no_instance_type c.args.ty c.in_default.not-Interface);
  grows = Grows-refl c.args.types.now c.see_acyclic.ensures;
}
