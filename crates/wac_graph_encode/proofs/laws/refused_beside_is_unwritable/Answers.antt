use Rattle.wac_graph_encode.proofs.RefusedInstances.{beside_unwritable}
use Rattle.wac_graph_encode.proofs.laws.refused_beside_is_unwritable.Goals as goal

pub returns : goal.returns
returns c = beside_unwritable
