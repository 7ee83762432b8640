use Rattle.std.proofs.Common.{subst, sym}
use Rattle.wac_types_base.specs.declared.item.ItemKind.{ItemKind}
use Rattle.wac_types_base.specs.Collection.{Stands}
use Rattle.wac_types_base.specs.Entries.{Name}
use Rattle.wac_types_base.specs.Stated.{stated_of, kind_of}
use Rattle.wac_parser_tree.specs.Views.{view_ident}
use Rattle.wac_parser_refusals.specs.Causes.{NotResourceType}
use Rattle.wac_parser_declare.specs.ValueTypes.{borrow_by}
use Rattle.wac_parser_refusals.specs.Outcomes.{IsOutcome, Refuses}
use Rattle.wac_parser_declare.specs.Holding.{IsValue}
use Rattle.wac_parser_declare.proofs.Values.{no_resource_kind}
use Rattle.wac_parser_declare.proofs.value_types.borrow_of.Goals as goal

pub borrow_of_type-requires : goal.borrow_of_type-requires
borrow_of_type-requires c = subst (λ (k : ItemKind). Stands c.args.types.now k) c.in-Ty.is c.requires

pub returns-in-Ty : goal.returns-in-Ty
returns-in-Ty c =
    subst (λ (k : ItemKind). IsOutcome (IsValue c.args.types.now) (borrow_by (kind_of (stated_of c.args.types.now k)) (view_ident c.args.id.now) (stated_of c.args.types.now k)) c.borrow_of_type.result) (sym c.in-Ty.is) c.borrow_of_type.ensures

pub returns-in_default : goal.returns-in_default
returns-in_default c =
    no_resource_kind c.args.types.now c.see_acyclic.ensures (view_ident c.args.id.now) c.not_resource_type.result c.args.kind c.requires c.in_default.not-Ty
    (subst (λ (w : Name). Refuses c.not_resource_type.result (NotResourceType c.args.id.now.string.now w) c.args.id.now.span) c.desc.ensures c.not_resource_type.ensures)
