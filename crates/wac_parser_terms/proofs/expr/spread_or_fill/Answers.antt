use Rattle.wac_parser_terms.proofs.expr.spread_or_fill.Goals as goal
use Rattle.wac_parser_grammar.proofs.Faithful.{behind_trans}

pub returns-in_err-ident-clause-goes_on : goal.returns-in_err-ident-clause-goes_on
returns-in_err-ident-clause-goes_on c = behind_trans _ _ _ c.ident.ensures.goes_on c.parse_token.ensures.goes_on

pub returns-clause-goes_on : goal.returns-clause-goes_on
returns-clause-goes_on c = behind_trans _ _ _ c.ident.ensures.goes_on c.parse_token.ensures.goes_on
