use Rattle.wac_graph_core.proofs.Listed.{listed_last}
use Rattle.wac_graph_core.proofs.laws.new_nodes_are_last.Goals as goal

pub returns : goal.returns
returns c = listed_last
