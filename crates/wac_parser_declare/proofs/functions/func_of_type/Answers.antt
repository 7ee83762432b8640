use Rattle.std.proofs.Common.{subst, sym}
use Rattle.wac_types_base.specs.declared.item.ItemKind.{ItemKind}
use Rattle.wac_types_base.specs.declared.item.«Type».{«Type» as TypeKind}
use Rattle.wac_types_base.specs.Collection.{Stands}
use Rattle.wac_types_base.specs.Entries.{Name}
use Rattle.wac_types_base.specs.Stated.{stated_of, kind_of}
use Rattle.wac_parser_tree.specs.Views.{view_ident}
use Rattle.wac_parser_refusals.specs.Causes.{NotFuncType}
use Rattle.wac_parser_refusals.specs.Outcomes.{IsHeld, Refuses}
use Rattle.wac_parser_declare.specs.Declarations.{func_by}
use Rattle.wac_parser_declare.specs.Holding.{IsFunc}
use Rattle.wac_parser_declare.proofs.Members.{untyped_func, no_func_type}
use Rattle.wac_parser_declare.proofs.functions.func_of_type.Goals as goal

pub returns-in-Func-clause-outcome : goal.returns-in-Func-clause-outcome
returns-in-Func-clause-outcome c =
    subst (λ (y : TypeKind). IsHeld (IsFunc c.args.types.now) (func_by (kind_of (stated_of c.args.types.now (ItemKind.Ty y))) (view_ident c.args.id.now) (stated_of c.args.types.now (ItemKind.Ty y))) c.in-Func.func) (sym c.in-Func.is)
    (untyped_func c.args.types.now c.see_acyclic.ensures (view_ident c.args.id.now) c.in-Func.func (subst (λ (y : TypeKind). Stands c.args.types.now (ItemKind.Ty y)) c.in-Func.is c.requires))

pub returns-in_default-clause-outcome : goal.returns-in_default-clause-outcome
returns-in_default-clause-outcome c =
    no_func_type c.args.types.now c.see_acyclic.ensures (view_ident c.args.id.now) c.not_func_type.result c.args.ty c.requires c.in_default.not-Func
    (subst (λ (w : Name). Refuses c.not_func_type.result (NotFuncType c.args.id.now.string.now w) c.args.id.now.span) c.desc.ensures c.not_func_type.ensures)
