use Rattle.wac_parser_resolve.proofs.Alone.{definitions_alone}
use Rattle.wac_parser_resolve.proofs.Askers.{askers_placed}
use Rattle.wac_parser_resolve.proofs.askers_have_places.Goals as goal

pub returns-clause-alone : goal.returns-clause-alone
returns-clause-alone c = definitions_alone

pub returns-clause-placed : goal.returns-clause-placed
returns-clause-placed c = askers_placed
