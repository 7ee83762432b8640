use Rattle.std.proofs.Common.{subst, sym}
use Rattle.wac_types_base.specs.Record.{Collection}
use Rattle.wac_parser_tree.specs.declared.value_type.FuncTypeRef.{FuncTypeRef}
use Rattle.wac_parser_tree.specs.Views.{view_func_type_ref, view_ident}
use Rattle.wac_parser_refusals.specs.Outcomes.{IsOutcome}
use Rattle.wac_parser_declare.specs.Declarations.{func_named, func_ref}
use Rattle.wac_parser_declare.specs.Holding.{IsFunc, scope_of}
use Rattle.wac_parser_declare.proofs.functions.func_type_ref.Goals as goal

pub returns-in-Func-clause-outcome : goal.returns-in-Func-clause-outcome
returns-in-Func-clause-outcome g c =
    let old = g.T.GrowingTypes.collection c.args.types.now in
    let new = g.T.GrowingTypes.collection c.func_type.new.types in
    subst (λ (f : FuncTypeRef). IsOutcome (IsFunc new) (func_ref (scope_of old c.args.names.now) (view_func_type_ref f)) c.func_type.result) (sym c.in-Func.is) c.func_type.ensures.outcome

pub returns-in-Ident-clause-outcome : goal.returns-in-Ident-clause-outcome
returns-in-Ident-clause-outcome g c =
    let old = g.T.GrowingTypes.collection c.args.types.now in
    subst (λ (f : FuncTypeRef). IsOutcome (IsFunc old) (func_ref (scope_of old c.args.names.now) (view_func_type_ref f)) c.func_named.result) (sym c.in-Ident.is)
    (subst (λ (x : Collection). IsOutcome (IsFunc x) (func_named (scope_of x c.args.names.now) (view_ident c.in-Ident.id)) c.func_named.result) c.types-in-Ident.ensures c.func_named.ensures.outcome)
