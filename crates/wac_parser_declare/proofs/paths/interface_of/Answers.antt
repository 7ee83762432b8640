use Rattle.std.proofs.Common.{Some, None, ap, sym, ◌∙◌}
use Rattle.wac_types_base.specs.declared.item.ItemKind.{ItemKind}
use Rattle.wac_types_base.proofs.Telling.{item_kind}
use Rattle.wac_types_base.specs.Stated.{is_interface}
use Rattle.wac_parser_declare.proofs.Roots.{interface_stated, no_interface, no_interface_type}
use Rattle.wac_parser_declare.proofs.paths.interface_of.Goals as goal

pub returns-in_default : goal.returns-in_default
returns-in_default c = record { interface = interface_stated c.args.kind None (no_interface c.args.kind c.in_default.not-Ty); same = tt }

pub returns-in-Interface-clause-interface : goal.returns-in-Interface-clause-interface
returns-in-Interface-clause-interface c =
    interface_stated c.args.kind (Some c.in-Interface.id) (sym (ap (λ k. is_interface (item_kind k)) c.in-Ty.is ∙ ap (λ t. is_interface (item_kind (ItemKind.Ty t))) c.in-Interface.is))

pub returns-in_default-ty : goal.returns-in_default-ty
returns-in_default-ty c = record {
  interface = interface_stated c.args.kind None (no_interface_type c.in-Ty.ty c.in_default-ty.not-Interface ∙ sym (ap (λ k. is_interface (item_kind k)) c.in-Ty.is));
  same = tt;
}
