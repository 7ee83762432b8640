use Rattle.std.proofs.Common.{◌≡◌, ◌-◌, [], length, map}
use Rattle.std.specs.Str.{IsCharBoundary}
use Rattle.wac_parser_lexer.specs.Pieces.{pieces_at}
use Rattle.wac_parser_lexer.specs.Items.{docs_before}
use Rattle.wac_parser_lexer.specs.Docs.{doc_of}
use Rattle.wac_parser_lexer.proofs.lexer.docs_from.Given as goal

abbrev pub invariant-pieces : goal.invariant-pieces
invariant-pieces l = record {
  value : docs_before (map doc_of l.docs.items) (pieces_at l.source l.at) ≡ docs_before [] (pieces_at l.source l.start);
  place : IsCharBoundary l.source l.at;
}

abbrev pub decreases-pieces : goal.decreases-pieces
decreases-pieces l = length l.source - l.at
