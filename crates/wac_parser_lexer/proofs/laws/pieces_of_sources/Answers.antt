use Rattle.wac_parser_lexer.proofs.StandLaws.{stands}
use Rattle.wac_parser_lexer.proofs.CutLaws.{only_cut}
use Rattle.wac_parser_lexer.proofs.laws.pieces_of_sources.Goals as goal

pub returns : goal.returns
returns c = λ source. (stands source, only_cut source 0)
