use Rattle.wac_parser_read.proofs.MadeOfParts.{optional_faults}
use Rattle.wac_parser_read.proofs.laws.optional_faults_stand.Goals as goal

pub returns : goal.returns
returns g c = optional_faults g.T.Parse.rule c.requires
