use Rattle.std.proofs.Common.{◌+◌, ◌*◌, ◌≡◌, ◌≤◌, ℕ, length, map, true}
use Rattle.wac_parser_tree.specs.Views.{view_instantiation_argument}
use Rattle.wac_parser_grammar.specs.Places.{IsBehind}
use Rattle.wac_parser_grammar.specs.Rules.{read_list, after_front, left}
use Rattle.wac_parser_grammar.specs.Expressions.{expr, instantiation_argument, argument_first}
use Rattle.wac_parser_lexer.specs.declared.token.Token.TheVariants.{CloseBrace}
use Rattle.wac_parser_terms.proofs.expr.+expr.Given as goal

abbrev pub decreases-expr_within : goal.decreases-expr_within
decreases-expr_within l = 10 * l.levels

abbrev pub decreases-expr_level : goal.decreases-expr_level
decreases-expr_level l = 10 * l.inside + 9

abbrev pub decreases-primary_expr : goal.decreases-primary_expr
decreases-primary_expr l = 10 * l.inside + 8

abbrev pub decreases-new_expr : goal.decreases-new_expr
decreases-new_expr l = 10 * l.inside + 7

abbrev pub decreases-nested_expr : goal.decreases-nested_expr
decreases-nested_expr l = 10 * l.inside + 7

abbrev pub decreases-arguments : goal.decreases-arguments
decreases-arguments l = 10 * l.inside + 6

abbrev pub decreases-instantiation_argument : goal.decreases-instantiation_argument
decreases-instantiation_argument l = 10 * l.inside + 5

abbrev pub decreases-ident_argument : goal.decreases-ident_argument
decreases-ident_argument l = 10 * l.inside + 4

abbrev pub decreases-string_argument : goal.decreases-string_argument
decreases-string_argument l = 10 * l.inside + 4

abbrev pub decreases-argument_value : goal.decreases-argument_value
decreases-argument_value l = 10 * l.inside + 3

abbrev pub decreases-arguments-items : goal.decreases-arguments-items
decreases-arguments-items l = left l.lexer

abbrev pub invariant-arguments-items : goal.invariant-arguments-items
invariant-arguments-items l = record {
  reads : (n : ℕ) → after_front (map view_instantiation_argument l.items.items) (read_list (instantiation_argument (expr l.inside)).read argument_first CloseBrace true n l.lexer) ≡ read_list (instantiation_argument (expr l.inside)).read argument_first CloseBrace true (length l.items.items + n) l.initial.lexer;
  room : length l.items.items + left l.lexer ≤ left l.initial.lexer;
  place : IsBehind l.lexer l.initial.lexer;
}
