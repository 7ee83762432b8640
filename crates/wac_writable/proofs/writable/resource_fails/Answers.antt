use Rattle.std.proofs.Common.{sym, ap, ◌∙◌}
use Rattle.std.specs.Prelude.{bytes_eq}
use Rattle.wac_types_base.specs.declared.item.ItemKind.{ItemKind}
use Rattle.wac_types_base.specs.declared.item.«Type».{«Type» as TypeKind}
use Rattle.wac_types_base.specs.Stated.{stated_of}
use Rattle.wac_composition.specs.Writable.{is_given}
use Rattle.wac_writable.proofs.SimpleLaws.{of_kind, alias_unwritable, named_resource, renamed_resource}
use Rattle.wac_writable.proofs.writable.resource_fails.Goals as goal

pub returns-then-is_some : goal.returns-then-is_some
returns-then-is_some c s h w =
    let C = c.args.test.types.now in
    of_kind C c.args.test.is_outer c.args.item.name.now h c.args.item.kind (ItemKind.Ty (TypeKind.Resource c.args.id)) c.handle_fails.result c.requires s
    (λ t. c.handle_fails.ensures t h w.shows
    ∙ alias_unwritable C c.see_acyclic.ensures c.args.test.is_outer c.args.item.name.now h c.args.id c.resource-resource.result.now c.resource-resource.ensures.entry c.resource-resource.ensures.own (sym c.is_some.ensures ∙ c.if-is_some.true))

pub returns-then-eq : goal.returns-then-eq
returns-then-eq c s h w =
    let C = c.args.test.types.now in
    of_kind C c.args.test.is_outer c.args.item.name.now h c.args.item.kind (ItemKind.Ty (TypeKind.Resource c.args.id)) _ c.requires s
    (λ t. named_resource C c.see_acyclic.ensures c.args.test.is_outer c.args.item.name.now h c.args.id c.resource-resource.result.now c.resource-resource.ensures.entry c.resource-resource.ensures.own (sym c.is_some.ensures ∙ c.if-is_some.false) (ap (λ m. bytes_eq c.args.item.name.now m) (sym c.as_str.ensures) ∙ sym c.eq.ensures ∙ c.if-eq.true))

pub returns : goal.returns
returns c s h w =
    let C = c.args.test.types.now in
    of_kind C c.args.test.is_outer c.args.item.name.now h c.args.item.kind (ItemKind.Ty (TypeKind.Resource c.args.id)) _ c.requires s
    (λ t. renamed_resource C c.see_acyclic.ensures c.args.test.is_outer c.args.item.name.now h c.args.id c.resource-resource.result.now c.resource-resource.ensures.entry c.resource-resource.ensures.own c.in_ok-is_given.is_given (sym c.is_some.ensures ∙ c.if-is_some.false) (ap (λ m. bytes_eq c.args.item.name.now m) (sym c.as_str.ensures) ∙ sym c.eq.ensures ∙ c.if-eq.false)
    (c.in_ok-is_given.ensures s h w.shows ∙ ap (λ k. is_given h c.args.item.name.now (stated_of C k)) c.requires))
