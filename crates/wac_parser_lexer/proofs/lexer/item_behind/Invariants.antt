use Rattle.std.proofs.Common.{◌≡◌, ◌-◌, [], length}
use Rattle.std.specs.Prelude.{IsTrue}
use Rattle.std.specs.Str.{IsCharBoundary}
use Rattle.wac_parser_lexer.specs.Pieces.{pieces_at}
use Rattle.wac_parser_lexer.specs.Items.{ahead, behind, docs_before}
use Rattle.wac_parser_lexer.proofs.lexer.item_behind.Given as goal

abbrev pub invariant-pieces : goal.invariant-pieces
invariant-pieces l = record {
  found : ahead (pieces_at l.source l.at) ≡ ahead (pieces_at l.source l.start);
  rest : behind (pieces_at l.source l.at) ≡ behind (pieces_at l.source l.start);
  place : IsCharBoundary l.source l.at;
  bare : IsTrue l.bare → docs_before [] (pieces_at l.source l.at) ≡ docs_before [] (pieces_at l.source l.start);
}

abbrev pub decreases-pieces : goal.decreases-pieces
decreases-pieces l = length l.source - l.at
