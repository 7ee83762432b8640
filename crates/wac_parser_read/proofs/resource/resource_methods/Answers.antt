use Rattle.wac_parser_terms.proofs.Places.{stays}
use Rattle.wac_parser_read.proofs.resource.resource_methods.Goals as goal

pub returns-then-not-sees-clause-goes_on : goal.returns-then-not-sees-clause-goes_on
returns-then-not-sees-clause-goes_on c = stays _
