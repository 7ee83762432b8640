use Rattle.wac_graph_encode.proofs.RefusedInstances.{instance_unwritable}
use Rattle.wac_graph_encode.proofs.laws.refused_instances_are_unwritable.Goals as goal

pub returns : goal.returns
returns c = instance_unwritable
