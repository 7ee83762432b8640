use Rattle.std.proofs.Common.{subst, sym}
use Rattle.wac_types_base.specs.declared.item.ItemKind.{ItemKind}
use Rattle.wac_types_base.specs.Collection.{Stands}
use Rattle.wac_types_base.specs.Entries.{Name}
use Rattle.wac_types_base.specs.Stated.{stated_of, kind_of}
use Rattle.wac_parser_tree.specs.Views.{view_ident}
use Rattle.wac_parser_refusals.specs.Causes.{NotFuncType}
use Rattle.wac_parser_refusals.specs.Outcomes.{IsHeld, IsOutcome, Refuses}
use Rattle.wac_parser_declare.specs.Declarations.{func_by}
use Rattle.wac_parser_declare.specs.Holding.{IsFunc}
use Rattle.wac_parser_declare.proofs.Members.{same_func, no_func_kind}
use Rattle.wac_parser_declare.proofs.functions.func_of.Goals as goal

pub func_of_type-requires : goal.func_of_type-requires
func_of_type-requires c = subst (λ (k : ItemKind). Stands c.args.types.now k) c.in-Ty.is c.requires

pub returns-in-Ty-clause-outcome : goal.returns-in-Ty-clause-outcome
returns-in-Ty-clause-outcome c =
    subst (λ (k : ItemKind). IsOutcome (IsFunc c.args.types.now) (func_by (kind_of (stated_of c.args.types.now k)) (view_ident c.args.id.now) (stated_of c.args.types.now k)) c.func_of_type.result) (sym c.in-Ty.is) c.func_of_type.ensures.outcome

pub returns-in-Func-clause-outcome : goal.returns-in-Func-clause-outcome
returns-in-Func-clause-outcome c =
    subst (λ (k : ItemKind). IsHeld (IsFunc c.args.types.now) (func_by (kind_of (stated_of c.args.types.now k)) (view_ident c.args.id.now) (stated_of c.args.types.now k)) c.in-Func.func) (sym c.in-Func.is)
    (same_func c.args.types.now c.see_acyclic.ensures (view_ident c.args.id.now) c.in-Func.func (subst (λ (k : ItemKind). Stands c.args.types.now k) c.in-Func.is c.requires))

pub returns-in_default-clause-outcome : goal.returns-in_default-clause-outcome
returns-in_default-clause-outcome c =
    no_func_kind c.args.types.now c.see_acyclic.ensures (view_ident c.args.id.now) c.not_func_type.result c.args.kind c.requires c.in_default.not-Ty c.in_default.not-Func
    (subst (λ (w : Name). Refuses c.not_func_type.result (NotFuncType c.args.id.now.string.now w) c.args.id.now.span) c.desc.ensures c.not_func_type.ensures)
