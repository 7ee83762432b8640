use Rattle.std.proofs.Common.{ℕ, List, length, map}
use Rattle.wac_parser_lexer.specs.declared.token.Token.{Token}
use Rattle.wac_parser_lexer.specs.Spellings.{Spells, spellings}
use Rattle.wac_parser_lexer.proofs.token.spelling.Given as goal

abbrev pub invariant-table : goal.invariant-table
invariant-table l = (kind : Token) (w : List ℕ) → Spells (map (λ e. (e.0.now, e.1)) l.table) kind w → Spells spellings kind w

abbrev pub decreases-table : goal.decreases-table
decreases-table l = length l.table
