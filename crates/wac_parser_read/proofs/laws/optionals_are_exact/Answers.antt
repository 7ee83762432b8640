use Rattle.wac_parser_read.proofs.MadeOfParts.{optionals_exact}
use Rattle.wac_parser_read.proofs.laws.optionals_are_exact.Goals as goal

pub returns : goal.returns
returns g c = optionals_exact g.T.Parse.rule c.requires
