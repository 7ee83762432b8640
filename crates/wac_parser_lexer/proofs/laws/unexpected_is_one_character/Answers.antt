use Rattle.wac_parser_lexer.proofs.CharLaws.{one_char}
use Rattle.wac_parser_lexer.proofs.laws.unexpected_is_one_character.Goals as goal

pub returns : goal.returns
returns c = one_char
