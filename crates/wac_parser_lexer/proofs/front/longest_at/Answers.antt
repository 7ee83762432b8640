use Rattle.std.proofs.Common.{◌∙◌, sym, arith}
use Rattle.wac_parser_lexer.proofs.FirstLaws.{no_text, string_alone, comment_alone}
use Rattle.wac_parser_lexer.proofs.front.longest_at.Goals as goal

pub longest_word-requires-clause-words : goal.longest_word-requires-clause-words
longest_word-requires-clause-words c = no_text c.args.z.now (omega arith) (omega arith)

pub returns-in-34-clause-value : goal.returns-in-34-clause-value
returns-in-34-clause-value c =
    c.longer.ensures ∙ (rw (c.spelled_at.ensures.value, c.string_len.ensures.value) (sym (string_alone c.args.z.now c.requires (omega arith))))

pub returns-in-47-clause-value : goal.returns-in-47-clause-value
returns-in-47-clause-value c =
    c.longer-in-47.ensures ∙ (rw (c.longer-best.ensures, c.spelled_at-in-47.ensures.value, c.line_comment_len.ensures.value, c.block_comment_len.ensures.value) (sym (comment_alone c.args.z.now c.requires (omega arith))))
