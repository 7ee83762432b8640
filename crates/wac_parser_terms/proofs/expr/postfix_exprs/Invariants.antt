use Rattle.std.proofs.Common.{◌+◌, ◌≡◌, ◌≤◌, ℕ, length, map}
use Rattle.wac_parser_tree.specs.Views.{view_postfix_expr}
use Rattle.wac_parser_grammar.specs.Places.{IsBehind}
use Rattle.wac_parser_grammar.specs.Rules.{read_while, after_front, left}
use Rattle.wac_parser_grammar.specs.Expressions.{postfix_expr, postfix_first, spanning}
use Rattle.wac_parser_terms.proofs.expr.postfix_exprs.Given as goal

abbrev pub invariant-postfix : goal.invariant-postfix
invariant-postfix l = record {
  reads : (n : ℕ) → after_front (map view_postfix_expr l.postfix.items) (read_while postfix_expr.read postfix_first n l.lexer) ≡ read_while postfix_expr.read postfix_first (length l.postfix.items + n) l.initial.lexer;
  room : length l.postfix.items + left l.lexer ≤ left l.initial.lexer;
  place : IsBehind l.lexer l.initial.lexer;
  span : l.span ≡ spanning l.initial.span (map view_postfix_expr l.postfix.items);
}

abbrev pub decreases-postfix : goal.decreases-postfix
decreases-postfix l = left l.lexer
