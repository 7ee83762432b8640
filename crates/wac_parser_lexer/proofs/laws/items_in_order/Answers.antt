use Rattle.wac_parser_lexer.proofs.StandLaws.{stand_in_order}
use Rattle.wac_parser_lexer.proofs.laws.items_in_order.Goals as goal

pub returns : goal.returns
returns c = stand_in_order
