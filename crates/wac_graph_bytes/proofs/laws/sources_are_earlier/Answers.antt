use Rattle.wac_graph_bytes.proofs.Earlier.{ordered, closed}
use Rattle.wac_graph_bytes.proofs.laws.sources_are_earlier.Goals as goal

pub returns-clause-ordered : goal.returns-clause-ordered
returns-clause-ordered c = ordered

pub returns-clause-closed : goal.returns-clause-closed
returns-clause-closed c = closed
