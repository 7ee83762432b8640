use Rattle.wac_parser_resolve.proofs.Ordered.{ordered}
use Rattle.wac_parser_resolve.proofs.wirings_are_ordered.Goals as goal

pub returns : goal.returns
returns c = ordered
