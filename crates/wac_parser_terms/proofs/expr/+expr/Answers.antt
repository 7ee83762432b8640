use Rattle.std.proofs.Common.{Err, ◌≡◌, true, map, length, sym, ap, ◌∙◌, arith}
use Rattle.std.proofs.lemmas.Result.{err_from_is_err_and}
use Rattle.std.proofs.lemmas.List.{map-append, length-append}
use Rattle.wac_parser_lexer.specs.declared.token.Token.TheVariants as k
use Rattle.wac_parser_tree.specs.Views.{view_instantiation_argument}
use Rattle.wac_parser_grammar.specs.Rules.{left}
use Rattle.wac_parser_grammar.specs.Expressions.{expr, expr_first, argument_first, instantiation_argument}
use Rattle.wac_parser_terms.proofs.Places.{stays}
use Rattle.wac_parser_grammar.proofs.Lists.{deeper, Rests-more, Rests-ends, Rests-begins_not, Rests-fails, Rests-fails_behind, begun_some}
use Rattle.wac_parser_terms.proofs.Types.{too_deep_reads}
use Rattle.wac_parser_terms.proofs.expr.+expr.Goals as goal
use Rattle.wac_parser_grammar.proofs.Faithful.{behind_trans}

pub expr_within-returns-then-levels-eq0-clause-value : goal.expr_within-returns-then-levels-eq0-clause-value
unfolding expr
expr_within-returns-then-levels-eq0-clause-value t c =
    let none : c.args.levels ≡ 0 = omega arith in
    λ _. ap (λ n. (expr n).read c.args.lexer.now) none ∙ too_deep_reads expr_first c.args.lexer.now _ c.too_deep.ensures

pub expr_within-returns-clause-value : goal.expr_within-returns-clause-value
unfolding expr
expr_within-returns-clause-value t c = rw (deeper expr c.args.levels (omega arith)) c.expr_level.ensures.value

pub arguments-returns-in_err-expect_value-clause-value : goal.arguments-returns-in_err-expect_value-clause-value
arguments-returns-in_err-expect_value-clause-value t c =
    let p = err_from_is_err_and c.from_residual.result c.from_residual.ensures.1 in
    rw (p.1, p.2) (λ other. Rests-begins_not (instantiation_argument (expr c.args.inside)).read argument_first k.CloseBrace true (map view_instantiation_argument c.items.items.items) c.items.lexer c.args.lexer.now (length c.items.items.items) (left c.args.lexer.now)
    c.items.invariant.reads (omega (arith, c.items.invariant.room)) (sym c.sees.ensures ∙ c.items-test.true) c.in_err-expect_value.ensures.none ∙ ap Err (sym c.in_err-expect_value.ensures.fault))

pub arguments-returns-in_err-instantiation_argument-clause-value : goal.arguments-returns-in_err-instantiation_argument-clause-value
arguments-returns-in_err-instantiation_argument-clause-value t c =
    let some = begun_some argument_first c.items.lexer c.in_ok-expect_value.ensures.some in
    let p = err_from_is_err_and c.from_residual-in_err-instantiation_argument.result c.from_residual-in_err-instantiation_argument.ensures.1 in
    rw (p.1, p.2) (λ other. Rests-fails (instantiation_argument (expr c.args.inside)).read argument_first k.CloseBrace true (map view_instantiation_argument c.items.items.items) c.items.lexer c.args.lexer.now (length c.items.items.items) (left c.args.lexer.now) _
    c.items.invariant.reads (omega (arith, c.items.invariant.room, some)) (sym c.sees.ensures ∙ c.items-test.true) c.in_ok-expect_value.ensures.some (c.in_err-instantiation_argument.ensures.value other))

pub arguments-items-preserved : goal.arguments-items-preserved
arguments-items-preserved t c = record {
  reads = λ n. rw (c.in_ok-push.ensures.items, map-append, length-append)
      (Rests-more (instantiation_argument (expr c.args.inside)).read argument_first k.CloseBrace true (map view_instantiation_argument c.items.items.items) c.items.lexer c.instantiation_argument.new.lexer c.behind.new.lexer c.args.lexer.now (view_instantiation_argument c.in_ok-instantiation_argument.field-0) (length c.items.items.items)
      c.items.invariant.reads (sym c.sees.ensures ∙ c.items-test.true) c.in_ok-expect_value.ensures.some c.in_ok-instantiation_argument.ensures.value c.in_ok-behind.ensures.value n);
  room = rw (c.in_ok-push.ensures.items, length-append) (omega (arith, c.items.invariant.room, c.in_ok-instantiation_argument.ensures.takes, c.in_ok-behind.ensures.keeps));
  place = behind_trans c.behind.new.lexer c.instantiation_argument.new.lexer c.args.lexer.now c.behind.ensures.goes_on (behind_trans c.instantiation_argument.new.lexer c.items.lexer c.args.lexer.now c.instantiation_argument.ensures.goes_on c.items.invariant.place);
}

pub arguments-returns-in_err-behind-clause-value : goal.arguments-returns-in_err-behind-clause-value
arguments-returns-in_err-behind-clause-value t c =
    let some = begun_some argument_first c.items.lexer c.in_ok-expect_value.ensures.some in
    let p = err_from_is_err_and c.from_residual-in_err-behind.result c.from_residual-in_err-behind.ensures.1 in
    rw (p.1, p.2) (λ other. Rests-fails_behind (instantiation_argument (expr c.args.inside)).read argument_first k.CloseBrace true (map view_instantiation_argument c.items.items.items) c.items.lexer c.instantiation_argument.new.lexer c.args.lexer.now (view_instantiation_argument c.in_ok-instantiation_argument.field-0) (length c.items.items.items) (left c.args.lexer.now) _
    c.items.invariant.reads (omega (arith, c.items.invariant.room, some)) (sym c.sees.ensures ∙ c.items-test.true) c.in_ok-expect_value.ensures.some c.in_ok-instantiation_argument.ensures.value (c.in_err-behind.ensures.value other))

pub arguments-returns-clause-value : goal.arguments-returns-clause-value
arguments-returns-clause-value t c =
    Rests-ends (instantiation_argument (expr c.args.inside)).read argument_first k.CloseBrace true (map view_instantiation_argument c.items.items.items) c.items.lexer c.args.lexer.now (length c.items.items.items) (left c.args.lexer.now)
    c.items.invariant.reads (omega (arith, c.items.invariant.room)) (sym c.sees.ensures ∙ c.items-test.false)

pub nested_expr-returns-in_err-expr_within-clause-goes_on : goal.nested_expr-returns-in_err-expr_within-clause-goes_on
nested_expr-returns-in_err-expr_within-clause-goes_on t c = behind_trans _ _ _ c.expr_within.ensures.goes_on c.parse_token.ensures.goes_on

pub nested_expr-returns-in_err-inner-clause-goes_on : goal.nested_expr-returns-in_err-inner-clause-goes_on
nested_expr-returns-in_err-inner-clause-goes_on t c = behind_trans _ _ _ c.expr_within.ensures.goes_on c.parse_token.ensures.goes_on

pub nested_expr-returns-in_err-close-clause-goes_on : goal.nested_expr-returns-in_err-close-clause-goes_on
nested_expr-returns-in_err-close-clause-goes_on t c =
    behind_trans _ _ _ c.parse_token-2.ensures.goes_on
    (behind_trans _ _ _ c.expr_within.ensures.goes_on c.parse_token.ensures.goes_on)

pub nested_expr-returns-clause-goes_on : goal.nested_expr-returns-clause-goes_on
nested_expr-returns-clause-goes_on t c =
    behind_trans _ _ _ c.parse_token-2.ensures.goes_on
    (behind_trans _ _ _ c.expr_within.ensures.goes_on c.parse_token.ensures.goes_on)

pub new_expr-returns-in_err-package-clause-goes_on : goal.new_expr-returns-in_err-package-clause-goes_on
new_expr-returns-in_err-package-clause-goes_on t c = behind_trans _ _ _ c.new_package.ensures.goes_on c.parse_token.ensures.goes_on

pub new_expr-returns-in_err-parse_token-clause-goes_on : goal.new_expr-returns-in_err-parse_token-clause-goes_on
new_expr-returns-in_err-parse_token-clause-goes_on t c =
    behind_trans _ _ _ c.parse_token-2.ensures.goes_on
    (behind_trans _ _ _ c.new_package.ensures.goes_on c.parse_token.ensures.goes_on)

pub new_expr-returns-in_err-arguments-clause-goes_on : goal.new_expr-returns-in_err-arguments-clause-goes_on
new_expr-returns-in_err-arguments-clause-goes_on t c =
    behind_trans _ _ _ c.arguments.ensures.goes_on
    (behind_trans _ _ _ c.parse_token-2.ensures.goes_on
    (behind_trans _ _ _ c.new_package.ensures.goes_on c.parse_token.ensures.goes_on))

pub new_expr-returns-in_err-close-clause-goes_on : goal.new_expr-returns-in_err-close-clause-goes_on
new_expr-returns-in_err-close-clause-goes_on t c =
    behind_trans _ _ _ c.parse_token-3.ensures.goes_on
    (behind_trans _ _ _ c.arguments.ensures.goes_on
    (behind_trans _ _ _ c.parse_token-2.ensures.goes_on
    (behind_trans _ _ _ c.new_package.ensures.goes_on c.parse_token.ensures.goes_on)))

pub new_expr-returns-clause-goes_on : goal.new_expr-returns-clause-goes_on
new_expr-returns-clause-goes_on t c =
    behind_trans _ _ _ c.parse_token-3.ensures.goes_on
    (behind_trans _ _ _ c.arguments.ensures.goes_on
    (behind_trans _ _ _ c.parse_token-2.ensures.goes_on
    (behind_trans _ _ _ c.new_package.ensures.goes_on c.parse_token.ensures.goes_on)))

pub argument_value-returns-in_err-expr-clause-goes_on : goal.argument_value-returns-in_err-expr-clause-goes_on
argument_value-returns-in_err-expr-clause-goes_on t c = behind_trans _ _ _ c.expr_within.ensures.goes_on c.parse_token.ensures.goes_on

pub argument_value-returns-clause-goes_on : goal.argument_value-returns-clause-goes_on
argument_value-returns-clause-goes_on t c = behind_trans _ _ _ c.expr_within.ensures.goes_on c.parse_token.ensures.goes_on

pub expr_level-returns-in_err-postfix-clause-goes_on : goal.expr_level-returns-in_err-postfix-clause-goes_on
expr_level-returns-in_err-postfix-clause-goes_on t c = behind_trans _ _ _ c.postfix_exprs.ensures.goes_on c.primary_expr.ensures.goes_on

pub expr_level-returns-clause-goes_on : goal.expr_level-returns-clause-goes_on
expr_level-returns-clause-goes_on t c = behind_trans _ _ _ c.postfix_exprs.ensures.goes_on c.primary_expr.ensures.goes_on

pub primary_expr-returns-clause-goes_on : goal.primary_expr-returns-clause-goes_on
primary_expr-returns-clause-goes_on t c = stays _

pub instantiation_argument-returns-clause-goes_on : goal.instantiation_argument-returns-clause-goes_on
instantiation_argument-returns-clause-goes_on t c = stays _
