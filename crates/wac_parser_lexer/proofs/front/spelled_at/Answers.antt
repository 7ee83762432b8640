use Rattle.std.proofs.Common.{◌∙◌, ap}
use Rattle.wac_parser_lexer.specs.declared.token.Token.TheVariants as k
use Rattle.wac_parser_lexer.specs.Front.{spelled_from}
use Rattle.wac_parser_lexer.proofs.SpellingLaws.{spelled_first}
use Rattle.wac_parser_lexer.proofs.front.spelled_at.Goals as goal

pub returns-clause-value : goal.returns-clause-value
returns-clause-value c =
    c.spelled_in.ensures.value ∙ ap (λ table. spelled_from (k.Ident, 0) table c.args.z.now) c.spellings_by.ensures ∙ spelled_first c.args.z.now c.requires
