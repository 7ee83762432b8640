use Rattle.wac_parser_terms.proofs.Places.{stays}
use Rattle.wac_parser_read.proofs.declaration.TypeAliasKindParse.parse.Goals as goal

pub returns-clause-goes_on : goal.returns-clause-goes_on
returns-clause-goes_on c = stays _
