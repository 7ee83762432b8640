use Rattle.wac_parser_terms.proofs.expr.named_access_expr.Goals as goal
use Rattle.wac_parser_grammar.proofs.Faithful.{behind_trans}

pub returns-in_err-string-clause-goes_on : goal.returns-in_err-string-clause-goes_on
returns-in_err-string-clause-goes_on c = behind_trans _ _ _ c.string.ensures.goes_on c.parse_token.ensures.goes_on

pub returns-in_err-close-clause-goes_on : goal.returns-in_err-close-clause-goes_on
returns-in_err-close-clause-goes_on c =
    behind_trans _ _ _ c.parse_token-2.ensures.goes_on
    (behind_trans _ _ _ c.string.ensures.goes_on c.parse_token.ensures.goes_on)

pub returns-clause-goes_on : goal.returns-clause-goes_on
returns-clause-goes_on c =
    behind_trans _ _ _ c.parse_token-2.ensures.goes_on
    (behind_trans _ _ _ c.string.ensures.goes_on c.parse_token.ensures.goes_on)
