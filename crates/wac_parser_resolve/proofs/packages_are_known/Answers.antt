use Rattle.wac_parser_resolve.proofs.Ordered.{known}
use Rattle.wac_parser_resolve.proofs.packages_are_known.Goals as goal

pub returns : goal.returns
returns c = known
