use Rattle.std.proofs.Common.{◌≡◌, ◌-◌, [], length}
use Rattle.std.specs.Str.{IsCharBoundary}
use Rattle.wac_parser_lexer.specs.Pieces.{pieces_at}
use Rattle.wac_parser_lexer.specs.Items.{ahead, behind, docs_before}
use Rattle.wac_parser_lexer.proofs.lexer.skip_blanks.Given as goal

abbrev pub invariant-blanks : goal.invariant-blanks
invariant-blanks l = record {
  first : ahead (pieces_at l.source l.at) ≡ ahead (pieces_at l.source l.start);
  rest : behind (pieces_at l.source l.at) ≡ behind (pieces_at l.source l.start);
  docs : docs_before [] (pieces_at l.source l.at) ≡ docs_before [] (pieces_at l.source l.start);
  place : IsCharBoundary l.source l.at;
}

abbrev pub decreases-blanks : goal.decreases-blanks
decreases-blanks l = length l.source - l.at
