use Rattle.std.proofs.Common.{◌≡◌, ◌≤◌, ℕ, length, drop, Option, Some, Result, Ok, sym}
use Rattle.std.proofs.lemmas.List.{take_rest}
use Rattle.wac_parser_lexer.specs.declared.token.Token.{Token}
use Rattle.wac_parser_lexer.specs.declared.error.Error.{Error}
use Rattle.wac_parser_lexer.specs.Pieces.{front_piece}
use Rattle.wac_parser_lexer.proofs.PieceLaws.{piece_step, place_step}
use Rattle.wac_parser_lexer.proofs.lexer.word_at.Goals as goal

pub returns : goal.returns
returns c =
    let word : Option (Result Token Error) × ℕ = (Some (Ok c.word_piece.result.0), c.word_piece.result.1) in
    let piece : front_piece (drop c.args.at c.args.source.now) ≡ word = rw (c.as_bytes.ensures.value, take_rest) at c.word_piece.ensures.value in
    let few : word.1 ≤ length (drop c.args.at c.args.source.now) = rw (c.as_bytes.ensures.value, take_rest) at c.word_piece.ensures.fits.1 in
    record {
      cut = piece_step c.args.source.now c.args.at word (sym piece) c.word_piece.ensures.fits.0 few;
      ends = place_step c.args.source.now c.args.at word c.utf8.source c.requires.begins c.requires.more (sym piece);
    }
