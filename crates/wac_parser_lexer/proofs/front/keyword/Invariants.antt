use Rattle.std.proofs.Common.{◌≡◌, length, map, get_or}
use Rattle.wac_parser_lexer.specs.Begun.{spellings_by, keyword_in}
use Rattle.wac_parser_lexer.proofs.front.keyword.Given as goal

abbrev pub invariant-table : goal.invariant-table
invariant-table l = keyword_in (map (λ e. (e.0.now, e.1)) l.table) l.word ≡ keyword_in (spellings_by (get_or l.word 0 0)) l.word

abbrev pub decreases-table : goal.decreases-table
decreases-table l = length l.table
