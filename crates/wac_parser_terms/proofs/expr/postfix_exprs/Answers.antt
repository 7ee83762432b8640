use Rattle.std.proofs.Common.{◌≡◌, ◌∷◌, ◌++◌, [], map, length, sym, ap, ◌∙◌, arith}
use Rattle.std.proofs.lemmas.Result.{err_from_is_err_and}
use Rattle.std.proofs.lemmas.List.{map-append, length-append}
use Rattle.wac_parser_tree.specs.Views.{view_postfix_expr}
use Rattle.wac_parser_tree.specs.Accessors.{postfix_expr_span}
use Rattle.wac_parser_grammar.specs.ValueTypes.{through}
use Rattle.wac_parser_grammar.specs.Ahead.{sees_any}
use Rattle.wac_parser_grammar.specs.Rules.{left, read_while}
use Rattle.wac_parser_grammar.specs.Expressions.{postfix_expr, postfix_first, spanning}
use Rattle.wac_parser_grammar.proofs.Lists.{begun_some}
use Rattle.wac_parser_terms.proofs.Whiles.{goes_while, While-more, While-ends, While-fails, spanning_more}
use Rattle.wac_parser_terms.proofs.expr.postfix_exprs.Goals as goal
use Rattle.wac_parser_grammar.proofs.Faithful.{behind_trans}

pub returns-in_err-access-clause-value : goal.returns-in_err-access-clause-value
returns-in_err-access-clause-value c =
    let some = begun_some postfix_first c.postfix.lexer (sym c.sees_any.ensures ∙ c.postfix-test.true) in
    let p = err_from_is_err_and c.from_residual.result c.from_residual.ensures.1 in
    rw (p.1, p.2) (λ other. While-fails postfix_expr.read (sees_any postfix_first) (read_while postfix_expr.read postfix_first) (goes_while postfix_expr.read postfix_first) (map view_postfix_expr c.postfix.postfix.items) c.postfix.lexer c.args.lexer.now (length c.postfix.postfix.items) (left c.args.lexer.now) _
    c.postfix.invariant.reads (omega (arith, c.postfix.invariant.room, some)) (sym c.sees_any.ensures ∙ c.postfix-test.true) (c.in_err-access.ensures.value other))

pub postfix-preserved : goal.postfix-preserved
postfix-preserved c = record {
  reads = λ n. rw (c.in_ok-push.ensures.items, map-append, length-append)
      (While-more postfix_expr.read (sees_any postfix_first) (read_while postfix_expr.read postfix_first) (goes_while postfix_expr.read postfix_first) (map view_postfix_expr c.postfix.postfix.items) c.postfix.lexer c.postfix_expr.new.lexer c.args.lexer.now (view_postfix_expr c.in_ok-access.access) (length c.postfix.postfix.items)
      c.postfix.invariant.reads (sym c.sees_any.ensures ∙ c.postfix-test.true) c.in_ok-access.ensures.value n);
  room = rw (c.in_ok-push.ensures.items, length-append) (omega (arith, c.postfix.invariant.room, c.in_ok-access.ensures.takes));
  place = behind_trans c.postfix_expr.new.lexer c.postfix.lexer c.args.lexer.now c.postfix_expr.ensures.goes_on c.postfix.invariant.place;
  span =
      (let e : map view_postfix_expr c.push.new.self.items ≡ map view_postfix_expr c.postfix.postfix.items ++ view_postfix_expr c.in_ok-access.access ∷ [] =
      rw (c.in_ok-push.ensures.items) (map-append view_postfix_expr c.postfix.postfix.items (c.in_ok-access.access ∷ [])) in
      c.through-span.ensures
      ∙ ap (through c.postfix.span) c.span.ensures
      ∙ ap (λ s. through s (postfix_expr_span (view_postfix_expr c.in_ok-access.access))) c.postfix.invariant.span
      ∙ sym (spanning_more c.args.start (map view_postfix_expr c.postfix.postfix.items) (view_postfix_expr c.in_ok-access.access))
      ∙ ap (spanning c.args.start) (sym e));
}

pub returns-clause-value : goal.returns-clause-value
returns-clause-value c =
    While-ends postfix_expr.read (sees_any postfix_first) (read_while postfix_expr.read postfix_first) (goes_while postfix_expr.read postfix_first) (map view_postfix_expr c.postfix.postfix.items) c.postfix.lexer c.args.lexer.now (length c.postfix.postfix.items) (left c.args.lexer.now)
    c.postfix.invariant.reads (omega (arith, c.postfix.invariant.room)) (sym c.sees_any.ensures ∙ c.postfix-test.false)
