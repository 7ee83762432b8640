use Rattle.std.proofs.Common.{◌∙◌, subst, sym}
use Rattle.wac_types_base.specs.declared.item.ItemKind.{ItemKind}
use Rattle.wac_types_base.specs.Stated.{interface_of, stated_of}
use Rattle.wac_types_written.specs.Written.{types_only}
use Rattle.wac_types_written.specs.Forms.{ItemsStand, UsesStand, stated_items, stated_uses}
use Rattle.wac_types_written.proofs.Ids.{interface_children, interface_exports_stand, interface_uses_stand}
use Rattle.wac_types_written.proofs.Adding.{interface_added}
use Rattle.wac_types_written.proofs.Typing.{only_types, types_stand}
use Rattle.wac_types_written.proofs.components.add_types_only.Goals as goal

pub add_interface-requires : goal.add_interface-requires
add_interface-requires c =
    let types = c.args.types.now in
    let i = c.interface-interface.ensures in
    let x = c.interface-interface.result.now in
    interface_children types (record { id = c.in_ok-copy_text.field-0; uses = c.in_ok-copy_uses.field-0; exports = c.in_ok-types_of.field-0 })
    (subst (UsesStand types) (sym c.in_ok-copy_uses.ensures) (interface_uses_stand types i.acyclic c.args.id x i.entry i.own))
    (subst (ItemsStand types) (sym c.in_ok-types_of.ensures) (types_stand types x.exports (interface_exports_stand types i.acyclic c.args.id x i.entry i.own)))

pub returns-clause-only : goal.returns-clause-only
returns-clause-only c =
    let types = c.args.types.now in
    let new = c.add_interface.new.self in
    let i = c.interface-interface.ensures in
    let x = c.interface-interface.result.now in
    let e = c.in_ok-form.ensures in
    interface_added types new e.grows (record { id = c.in_ok-copy_text.field-0; uses = c.in_ok-copy_uses.field-0; exports = c.in_ok-types_of.field-0 }) c.in_ok-form.form
    (types_only (stated_of types (ItemKind.Instance c.args.id))) e.added e.id
    ((λ j. interface_of (c.in_ok-copy_text.ensures j) (stated_uses new (c.in_ok-copy_uses.ensures j)) (stated_items new (c.in_ok-types_of.ensures j)))
    ∙ only_types types new i.acyclic e.grows c.args.id x i.entry i.own (interface_uses_stand types i.acyclic c.args.id x i.entry i.own) (interface_exports_stand types i.acyclic c.args.id x i.entry i.own))
