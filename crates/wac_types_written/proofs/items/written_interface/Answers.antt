use Rattle.std.proofs.Common.{◌∙◌, ap, subst, sym}
use Rattle.wac_types_base.specs.declared.item.«Type».{«Type» as TypeKind}
use Rattle.wac_types_base.specs.declared.item.ItemKind.{ItemKind}
use Rattle.wac_types_base.proofs.Adding.{Grows-refl, Grows-trans}
use Rattle.wac_types_base.proofs.Slots.{stands_typed_interface}
use Rattle.wac_types_written.specs.Forms.{IsOf}
use Rattle.wac_types_written.specs.Written.{component_type, wrapped}
use Rattle.wac_types_written.proofs.Forming.{interface_named, interface_type_formed, interface_unnamed}
use Rattle.wac_types_written.proofs.items.written_interface.Goals as goal

pub form_interface-requires-clause-stands : goal.form_interface-requires-clause-stands
form_interface-requires-clause-stands c = stands_typed_interface c.args.types.now c.args.id c.requires

pub interface-requires : goal.interface-requires
interface-requires c = stands_typed_interface c.args.types.now c.args.id c.requires

pub wrap-requires : goal.wrap-requires
wrap-requires c = c.in_ok-form.ensures.formed.stands

pub returns-in-None-clause-written : goal.returns-in-None-clause-written
returns-in-None-clause-written c =
    let types = c.args.types.now in
    let i = c.interface.ensures in
    let s = stands_typed_interface types c.args.id c.requires in
    subst (λ x. IsOf c.form_interface.new.types x (ItemKind.Ty (TypeKind.Interface c.in_ok-form.form))) (sym (interface_unnamed types i.acyclic c.args.id c.interface.result.now i.entry i.own s (sym c.in_ok-name.ensures ∙ c.in-None.is)))
    (interface_type_formed component_type types i.acyclic c.form_interface.new.types c.in_ok-form.ensures.grows.acyclic c.args.id c.in_ok-form.form s c.in_ok-form.ensures.formed)

pub returns-clause-written : goal.returns-clause-written
returns-clause-written c =
    let types = c.args.types.now in
    let i = c.interface.ensures in
    let s = stands_typed_interface types c.args.id c.requires in
    subst (λ x. IsOf c.wrap.new.types x c.in_ok-item-in-Some.item)
    (ap (wrapped c.in-Some.name) c.in_ok-form.ensures.formed.states ∙ sym (interface_named types i.acyclic c.args.id c.interface.result.now c.in-Some.name i.entry i.own s (sym c.in_ok-name.ensures ∙ c.in-Some.is)))
    c.in_ok-item-in-Some.ensures.wrapped

pub returns-clause-grows : goal.returns-clause-grows
returns-clause-grows c = Grows-trans c.args.types.now c.form_interface.new.types c.wrap.new.types c.in_ok-form.ensures.grows c.in_ok-item-in-Some.ensures.grows

pub returns-in_err-item-in-Some-clause-grows : goal.returns-in_err-item-in-Some-clause-grows
returns-in_err-item-in-Some-clause-grows c = Grows-trans c.args.types.now c.form_interface.new.types c.wrap.new.types c.in_ok-form.ensures.grows c.in_err-item-in-Some.ensures.grows

pub returns-in_err-name-clause-grows : goal.returns-in_err-name-clause-grows
returns-in_err-name-clause-grows c = Grows-refl c.args.types.now c.see_acyclic.ensures
