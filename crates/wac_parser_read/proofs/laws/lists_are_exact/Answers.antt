use Rattle.wac_parser_read.proofs.MadeOfParts.{lists_exact}
use Rattle.wac_parser_read.proofs.laws.lists_are_exact.Goals as goal

pub returns : goal.returns
returns g c = lists_exact g.T.Peek.first g.T.Parse.rule c.requires.exact c.requires.begun
