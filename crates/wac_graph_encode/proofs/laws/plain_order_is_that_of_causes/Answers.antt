use Rattle.wac_graph_encode.proofs.PlainOrders.{plain_order_written}
use Rattle.wac_graph_encode.proofs.laws.plain_order_is_that_of_causes.Goals as goal

pub returns : goal.returns
returns c = plain_order_written
