use Rattle.wac_parser_resolve.proofs.Refused.{refusals_stand}
use Rattle.wac_parser_resolve.proofs.refusals_stand.Goals as goal

pub returns : goal.returns
returns c = refusals_stand
