use Rattle.wac_graph_core.proofs.Twice as twice
use Rattle.wac_graph_core.proofs.laws.unset_after_set.Goals as goal

pub returns : goal.returns
returns c = twice.unset_after_set
