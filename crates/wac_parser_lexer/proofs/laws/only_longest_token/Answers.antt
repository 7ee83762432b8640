use Rattle.wac_parser_lexer.proofs.KindLaws.{next_scanned}
use Rattle.wac_parser_lexer.proofs.laws.only_longest_token.Goals as goal

pub returns : goal.returns
returns c = next_scanned
