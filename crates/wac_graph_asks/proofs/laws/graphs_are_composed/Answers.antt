use Rattle.wac_graph_asks.proofs.Origins.{graphs_are_composed}
use Rattle.wac_graph_asks.proofs.laws.graphs_are_composed.Goals as goal

pub returns : goal.returns
returns c = graphs_are_composed
