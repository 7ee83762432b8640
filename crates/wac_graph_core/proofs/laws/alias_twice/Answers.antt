use Rattle.wac_graph_core.proofs.Twice as twice
use Rattle.wac_graph_core.proofs.laws.alias_twice.Goals as goal

pub returns : goal.returns
returns c = twice.alias_twice
