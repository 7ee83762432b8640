use Rattle.wac_graph_encode.proofs.PlainOrders.{standing_before}
use Rattle.wac_graph_encode.proofs.laws.standing_sources_come_before.Goals as goal

pub returns : goal.returns
returns c = standing_before
