use Rattle.wac_parser_resolve.proofs.Ordered.{stay}
use Rattle.wac_parser_resolve.proofs.packages_stay.Goals as goal

pub returns : goal.returns
returns c = stay
