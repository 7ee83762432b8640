use Rattle.wac_parser_terms.proofs.function.named_type.Goals as goal
use Rattle.wac_parser_grammar.proofs.Faithful.{behind_trans}

pub returns-in_err-parse_token-clause-goes_on : goal.returns-in_err-parse_token-clause-goes_on
returns-in_err-parse_token-clause-goes_on c = behind_trans _ _ _ c.parse_token.ensures.goes_on c.ident.ensures.goes_on

pub returns-in_err-ty-clause-goes_on : goal.returns-in_err-ty-clause-goes_on
returns-in_err-ty-clause-goes_on c =
    behind_trans _ _ _ c.value_ty.ensures.goes_on
    (behind_trans _ _ _ c.parse_token.ensures.goes_on c.ident.ensures.goes_on)

pub returns-clause-goes_on : goal.returns-clause-goes_on
returns-clause-goes_on c =
    behind_trans _ _ _ c.value_ty.ensures.goes_on
    (behind_trans _ _ _ c.parse_token.ensures.goes_on c.ident.ensures.goes_on)
