use Rattle.wac_graph_encode.proofs.PlainOrders.{source_turn}
use Rattle.wac_graph_encode.proofs.laws.each_source_has_its_turn.Goals as goal

pub returns : goal.returns
returns c = source_turn
