use Rattle.wac_parser_read.proofs.world.NamedWorldItemParse.parse.Goals as goal
use Rattle.wac_parser_grammar.proofs.Faithful.{behind_trans}

pub returns-clause-goes_on : goal.returns-clause-goes_on
returns-clause-goes_on c = behind_trans _ _ _ c.item_type.ensures.goes_on c.ident.ensures.goes_on
