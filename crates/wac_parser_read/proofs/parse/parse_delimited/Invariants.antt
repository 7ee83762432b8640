use Rattle.std.proofs.Common.{◌+◌, ◌≡◌, ◌≤◌, ℕ, length, map}
use Rattle.wac_parser_grammar.specs.Places.{IsBehind}
use Rattle.wac_parser_grammar.specs.Rules.{read_list, after_front, left}
use Rattle.wac_parser_read.proofs.parse.parse_delimited.Given as goal

abbrev pub invariant-items : goal.invariant-items
invariant-items g l = record {
  reads : (n : ℕ) → after_front (map g.T.Parse.view l.items.items) (read_list g.T.Parse.rule.read g.T.Peek.first l.until l.with_commas n l.lexer) ≡ read_list g.T.Parse.rule.read g.T.Peek.first l.until l.with_commas (length l.items.items + n) l.initial.lexer;
  room : length l.items.items + left l.lexer ≤ left l.initial.lexer;
  place : IsBehind l.lexer l.initial.lexer;
}

abbrev pub decreases-items : goal.decreases-items
decreases-items g l = left l.lexer
