use Rattle.wac_parser_read.proofs.MadeOfParts.{list_faults}
use Rattle.wac_parser_read.proofs.laws.list_faults_stand.Goals as goal

pub returns : goal.returns
returns g c = list_faults g.T.Peek.first g.T.Parse.rule c.requires.exact c.requires.begun c.requires.faults
