use Rattle.wac_parser_resolve.proofs.ProperCollections.{collections_are_proper}
use Rattle.wac_parser_resolve.proofs.stated_types_are_proper.Goals as goal

pub returns : goal.returns
returns d = collections_are_proper
