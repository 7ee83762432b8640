use Rattle.std.proofs.Common.{◌∙◌, take, ap, sym, arith}
use Rattle.wac_parser_lexer.proofs.KeywordLaws.{keyword, keyword_longest}
use Rattle.wac_parser_lexer.proofs.front.spelled_or_ident.Goals as goal

pub returns-clause-value : goal.returns-clause-value
returns-clause-value c =
    ap (λ a. (a, c.args.ident)) c.keyword.ensures ∙ ap (λ n. (keyword (take n c.args.z.now), n)) c.requires.measured
    ∙ sym (keyword_longest c.args.z.now (omega arith))
