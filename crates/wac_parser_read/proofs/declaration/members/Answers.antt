use Rattle.wac_parser_read.proofs.declaration.members.Goals as goal
use Rattle.wac_parser_grammar.proofs.Faithful.{behind_trans}

pub returns-in_err-items-clause-goes_on : goal.returns-in_err-items-clause-goes_on
returns-in_err-items-clause-goes_on g c = behind_trans _ _ _ c.parse_delimited.ensures.goes_on c.parse_token.ensures.goes_on

pub returns-in_err-close-clause-goes_on : goal.returns-in_err-close-clause-goes_on
returns-in_err-close-clause-goes_on g c =
    behind_trans _ _ _ c.parse_token-2.ensures.goes_on
    (behind_trans _ _ _ c.parse_delimited.ensures.goes_on c.parse_token.ensures.goes_on)

pub returns-then-is_empty-clause-goes_on : goal.returns-then-is_empty-clause-goes_on
returns-then-is_empty-clause-goes_on g c =
    behind_trans _ _ _ c.parse_token-2.ensures.goes_on
    (behind_trans _ _ _ c.parse_delimited.ensures.goes_on c.parse_token.ensures.goes_on)

pub returns-clause-goes_on : goal.returns-clause-goes_on
returns-clause-goes_on g c =
    behind_trans _ _ _ c.parse_token-2.ensures.goes_on
    (behind_trans _ _ _ c.parse_delimited.ensures.goes_on c.parse_token.ensures.goes_on)
