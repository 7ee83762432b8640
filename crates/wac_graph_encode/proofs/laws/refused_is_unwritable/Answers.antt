use Rattle.wac_graph_encode.proofs.StockLaws.{refused_unwritable}
use Rattle.wac_graph_encode.proofs.laws.refused_is_unwritable.Goals as goal

pub returns : goal.returns
returns c = refused_unwritable
