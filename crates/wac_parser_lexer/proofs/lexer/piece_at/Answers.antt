use Rattle.std.proofs.Common.{◌≡◌, ◌≤◌, length, drop}
use Rattle.std.proofs.lemmas.List.{take_rest}
use Rattle.wac_parser_lexer.specs.Pieces.{front_piece}
use Rattle.wac_parser_lexer.proofs.PieceLaws.{piece_step, place_step}
use Rattle.wac_parser_lexer.proofs.lexer.piece_at.Goals as goal

pub returns : goal.returns
returns c =
    let piece : c.front_piece.result ≡ front_piece (drop c.args.at c.args.source.now) = rw (c.as_bytes.ensures.value, take_rest) at c.front_piece.ensures.value in
    let few : c.front_piece.result.1 ≤ length (drop c.args.at c.args.source.now) = rw (c.as_bytes.ensures.value, take_rest) at c.front_piece.ensures.fits.1 in
    record {
      cut = piece_step c.args.source.now c.args.at c.front_piece.result piece c.front_piece.ensures.fits.0 few;
      some = c.front_piece.ensures.fits.0;
      ends = place_step c.args.source.now c.args.at c.front_piece.result c.utf8.source c.requires.begins c.requires.more piece;
    }
