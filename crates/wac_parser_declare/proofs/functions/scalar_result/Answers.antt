use Rattle.std.proofs.Common.{◌≡◌, Some, true, false, subst, sym, ◌∙◌}
use Rattle.wac_types_base.specs.Record.{Collection}
use Rattle.wac_types_base.specs.Stated.{Stated, contains_borrow}
use Rattle.wac_parser_tree.specs.Views.{view_ty}
use Rattle.wac_parser_tree.specs.Trees.{Span}
use Rattle.wac_parser_refusals.specs.Causes.{BorrowInResult}
use Rattle.wac_parser_refusals.specs.Outcomes.{Refuses}
use Rattle.wac_parser_refusals.proofs.Outcomes.{refused_outcome, then_refused}
use Rattle.wac_parser_declare.specs.ValueTypes.{value}
use Rattle.wac_parser_declare.specs.Declarations.{no_borrow, scalar_result}
use Rattle.wac_parser_declare.specs.Holding.{IsValueIf, scope_of, stated_value}
use Rattle.wac_parser_declare.proofs.Members.{borrowing, told, unborrowed}
use Rattle.wac_parser_declare.proofs.functions.scalar_result.Goals as goal

pub returns-in_err-found-clause-outcome : goal.returns-in_err-found-clause-outcome
returns-in_err-found-clause-outcome g c =
    let ns = scope_of (g.T.GrowingTypes.collection c.args.types.now) c.args.names.now in
    let ty = view_ty c.args.ty.now in
    refused_outcome (IsValueIf (g.T.GrowingTypes.collection c.value_type.new.types)) (scalar_result ns ty) _ _ c.from_residual.ensures.1
    (then_refused (λ (v : Stated). no_borrow ty v) (value ns ty) _ c.in_err-found.ensures.outcome)

pub returns-then-contains_borrow-clause-outcome : goal.returns-then-contains_borrow-clause-outcome
returns-then-contains_borrow-clause-outcome g c =
    let new = g.T.GrowingTypes.collection c.value_type.new.types in
    let ns = scope_of (g.T.GrowingTypes.collection c.args.types.now) c.args.names.now in
    let ty = view_ty c.args.ty.now in
    let is : contains_borrow (stated_value new c.in_ok-found.found) ≡ true =
    subst (λ (x : Collection). contains_borrow (stated_value x c.in_ok-found.found) ≡ true) c.types.ensures (sym c.contains_borrow.ensures ∙ c.if-contains_borrow.true) in
    borrowing new ty (value ns ty) c.in_ok-found.found _ c.in_ok-found.ensures.outcome is
    (subst (λ (s : Span). Refuses c.named.result BorrowInResult s) c.span.ensures (told c.named.result BorrowInResult (Some c.span.result) c.named.ensures))

pub returns-clause-outcome : goal.returns-clause-outcome
returns-clause-outcome g c =
    let new = g.T.GrowingTypes.collection c.value_type.new.types in
    let ns = scope_of (g.T.GrowingTypes.collection c.args.types.now) c.args.names.now in
    let ty = view_ty c.args.ty.now in
    let is : contains_borrow (stated_value new c.in_ok-found.found) ≡ false =
    subst (λ (x : Collection). contains_borrow (stated_value x c.in_ok-found.found) ≡ false) c.types.ensures (sym c.contains_borrow.ensures ∙ c.if-contains_borrow.false) in
    unborrowed new ty (value ns ty) c.in_ok-found.found c.in_ok-found.ensures.outcome is
