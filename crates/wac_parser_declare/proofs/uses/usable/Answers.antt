use Rattle.std.proofs.Common.{Some, None, ap, sym, ◌∙◌}
use Rattle.wac_types_base.specs.declared.item.ItemKind.{ItemKind}
use Rattle.wac_types_base.proofs.Telling.{item_kind}
use Rattle.wac_parser_declare.specs.Bodies.{usable}
use Rattle.wac_parser_declare.proofs.InUses.{no_use_of, no_use_of_type, usable_stated}
use Rattle.wac_parser_declare.proofs.uses.usable.Goals as goal

pub returns-in_default : goal.returns-in_default
returns-in_default c = record { usable = usable_stated c.args.kind None (no_use_of c.args.kind c.in_default.not-Ty); same = tt }

pub returns-in-Resource-clause-usable : goal.returns-in-Resource-clause-usable
returns-in-Resource-clause-usable c =
    usable_stated c.args.kind (Some c.in-Ty.ty) (sym (ap (λ k. usable (item_kind k)) c.in-Ty.is ∙ ap (λ t. usable (item_kind (ItemKind.Ty t))) c.in-Resource.is))

pub returns-in-Value-clause-usable : goal.returns-in-Value-clause-usable
returns-in-Value-clause-usable c =
    usable_stated c.args.kind (Some c.in-Ty.ty) (sym (ap (λ k. usable (item_kind k)) c.in-Ty.is ∙ ap (λ t. usable (item_kind (ItemKind.Ty t))) c.in-Value.is))

pub returns-in_default-ty : goal.returns-in_default-ty
returns-in_default-ty c = record {
  usable = usable_stated c.args.kind None (no_use_of_type c.in-Ty.ty c.in_default-ty.not-Resource c.in_default-ty.not-Value ∙ sym (ap (λ k. usable (item_kind k)) c.in-Ty.is));
  same = tt;
}
