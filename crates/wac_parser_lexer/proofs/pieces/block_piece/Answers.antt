use Rattle.std.proofs.Common.{ℕ, sym, ap, ◌∙◌, arith}
use Rattle.wac_parser_lexer.proofs.BlockPieceLaws.{skip, block_fault, block_front}
use Rattle.wac_parser_lexer.proofs.pieces.block_piece.Goals as goal

pub returns-then-len-eq0-clause-value : goal.returns-then-len-eq0-clause-value
returns-then-len-eq0-clause-value c = sym (block_fault c.args.z.now c.requires.opens (sym c.block_comment_len-len.ensures.value ∙ c.if-len-eq0.true))

pub returns-clause-value : goal.returns-clause-value
returns-clause-value c =
    ap (λ (n : ℕ). skip n) c.block_comment_len-len.ensures.value ∙ sym (block_front c.args.z.now c.requires.opens (omega (arith, c.block_comment_len-len.ensures.value)))
