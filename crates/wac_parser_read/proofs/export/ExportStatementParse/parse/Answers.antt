use Rattle.wac_parser_read.proofs.export.ExportStatementParse.parse.Goals as goal
use Rattle.wac_parser_grammar.proofs.Faithful.{behind_trans}

pub returns-in_err-expr-clause-goes_on : goal.returns-in_err-expr-clause-goes_on
returns-in_err-expr-clause-goes_on c = behind_trans _ _ _ c.parse.ensures.goes_on c.parse_token.ensures.goes_on

pub returns-in_err-options-clause-goes_on : goal.returns-in_err-options-clause-goes_on
returns-in_err-options-clause-goes_on c =
    behind_trans _ _ _ c.parse-2.ensures.goes_on
    (behind_trans _ _ _ c.parse.ensures.goes_on c.parse_token.ensures.goes_on)

pub returns-in_err-parse_token-2-clause-goes_on : goal.returns-in_err-parse_token-2-clause-goes_on
returns-in_err-parse_token-2-clause-goes_on c =
    behind_trans _ _ _ c.parse_token-2.ensures.goes_on
    (behind_trans _ _ _ c.parse-2.ensures.goes_on
    (behind_trans _ _ _ c.parse.ensures.goes_on c.parse_token.ensures.goes_on))

pub returns-clause-goes_on : goal.returns-clause-goes_on
returns-clause-goes_on c =
    behind_trans _ _ _ c.parse_token-2.ensures.goes_on
    (behind_trans _ _ _ c.parse-2.ensures.goes_on
    (behind_trans _ _ _ c.parse.ensures.goes_on c.parse_token.ensures.goes_on))
