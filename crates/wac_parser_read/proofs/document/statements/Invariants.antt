use Rattle.std.proofs.Common.{◌+◌, ◌≡◌, ◌≤◌, ℕ, length, map}
use Rattle.wac_parser_tree.specs.Views.{view_statement}
use Rattle.wac_parser_grammar.specs.Rules.{read_all, after_front, left}
use Rattle.wac_parser_grammar.specs.Documents.{statement}
use Rattle.wac_parser_read.proofs.document.statements.Given as goal

abbrev pub invariant-statements : goal.invariant-statements
invariant-statements l = record {
  reads : (n : ℕ) → after_front (map view_statement l.statements.items) (read_all statement.read n l.lexer) ≡ read_all statement.read (length l.statements.items + n) l.initial.lexer;
  room : length l.statements.items + left l.lexer ≤ left l.initial.lexer;
}

abbrev pub decreases-statements : goal.decreases-statements
decreases-statements l = left l.lexer
