use Rattle.std.proofs.Common.{◌+◌, ◌≡◌, ◌≤◌, ℕ, true, [], ◌∷◌, length, map}
use Rattle.wac_parser_lexer.specs.declared.token.Token.TheVariants as k
use Rattle.wac_parser_tree.specs.Views.{view_named_type}
use Rattle.wac_parser_grammar.specs.ValueTypes.{named_type}
use Rattle.wac_parser_grammar.specs.Places.{IsBehind}
use Rattle.wac_parser_grammar.specs.Rules.{read_list, after_front, left}
use Rattle.wac_parser_terms.proofs.function.params.Given as goal

abbrev pub invariant-params : goal.invariant-params
invariant-params l = record {
  reads : (n : ℕ) → after_front (map view_named_type l.params.items) (read_list named_type.read (k.Ident ∷ []) k.CloseParen true n l.lexer) ≡ read_list named_type.read (k.Ident ∷ []) k.CloseParen true (length l.params.items + n) l.initial.lexer;
  room : length l.params.items + left l.lexer ≤ left l.initial.lexer;
  place : IsBehind l.lexer l.initial.lexer;
}

abbrev pub decreases-params : goal.decreases-params
decreases-params l = left l.lexer
