use Rattle.wac_parser_read.proofs.interface.UseItemParse.parse.Goals as goal
use Rattle.wac_parser_grammar.proofs.Faithful.{behind_trans}

pub returns-in_err-as_id-clause-goes_on : goal.returns-in_err-as_id-clause-goes_on
returns-in_err-as_id-clause-goes_on c = behind_trans _ _ _ c.parse_optional.ensures.goes_on c.ident.ensures.goes_on

pub returns-clause-goes_on : goal.returns-clause-goes_on
returns-clause-goes_on c = behind_trans _ _ _ c.parse_optional.ensures.goes_on c.ident.ensures.goes_on
