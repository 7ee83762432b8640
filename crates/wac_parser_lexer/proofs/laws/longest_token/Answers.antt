use Rattle.wac_parser_lexer.proofs.FrontLaws.{token_next, token_none}
use Rattle.wac_parser_lexer.proofs.laws.longest_token.Goals as goal

pub returns : goal.returns
returns c = (token_next, token_none)
