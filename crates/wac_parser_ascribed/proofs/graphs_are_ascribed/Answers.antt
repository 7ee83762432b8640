use Rattle.wac_parser_ascribed.proofs.Wired.{ascribed}
use Rattle.wac_parser_ascribed.proofs.graphs_are_ascribed.Goals as goal

pub returns : goal.returns
returns c = ascribed
