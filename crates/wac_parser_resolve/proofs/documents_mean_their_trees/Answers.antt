use Rattle.wac_parser_resolve.proofs.AlikeAscribed.{acceptance_is_of_trees, wiring_is_of_trees}
use Rattle.wac_parser_resolve.proofs.documents_mean_their_trees.Goals as goal

pub returns-clause-accepted : goal.returns-clause-accepted
returns-clause-accepted c = acceptance_is_of_trees

pub returns-clause-wired : goal.returns-clause-wired
returns-clause-wired c = wiring_is_of_trees
