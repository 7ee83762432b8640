use Rattle.std.proofs.Common.{subst}
use Rattle.wac_types_base.specs.Entries.{Name}
use Rattle.wac_parser_refusals.specs.Causes.{NotInterfaceValueType}
use Rattle.wac_parser_refusals.specs.Outcomes.{Refuses}
use Rattle.wac_parser_tree.specs.Views.{view_use_item}
use Rattle.wac_parser_declare.proofs.InUses.{type_absent, type_unusable, type_usable}
use Rattle.wac_parser_declare.proofs.uses.used_type.Goals as goal

pub returns-in_default-clause-outcome : goal.returns-in_default-clause-outcome
returns-in_default-clause-outcome c =
    type_absent c.args.types.now c.see_acyclic.ensures c.args.from.interface c.requires c.args.from.path.now (view_use_item c.args.item.now) c.undefined_type.result c.in_default.ensures.export c.undefined_type.ensures

pub returns-in-Some-usable-clause-outcome : goal.returns-in-Some-usable-clause-outcome
returns-in-Some-usable-clause-outcome c =
    type_usable c.args.types.now c.see_acyclic.ensures c.args.from.interface c.requires c.args.from.path.now (view_use_item c.args.item.now) c.in-Some.kind c.in-Some.ensures.export c.in-Some.ensures.stands
    c.in-Some-usable.ty c.usable.result c.in-Some-usable.is c.usable.ensures.usable c.in-Some-usable.ensures.same

pub returns-in-None-clause-outcome : goal.returns-in-None-clause-outcome
returns-in-None-clause-outcome c =
    type_unusable c.args.types.now c.see_acyclic.ensures c.args.from.interface c.requires c.args.from.path.now (view_use_item c.args.item.now) c.in-Some.kind c.in-Some.ensures.export c.in-Some.ensures.stands
    c.not_used_type.result c.usable.result c.in-None.is c.usable.ensures.usable
    (subst (λ (w : Name). Refuses c.not_used_type.result (NotInterfaceValueType c.args.item.now.id.string.now w c.args.from.path.now) c.args.item.now.id.span) c.desc.ensures c.not_used_type.ensures)
