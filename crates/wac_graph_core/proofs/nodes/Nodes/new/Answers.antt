use Rattle.std.proofs.Common.{ap, Some}
use Rattle.wac_graph_core.specs.Slots.{nodes_in}
use Rattle.wac_graph_core.proofs.Noting.{none_known}
use Rattle.wac_graph_core.proofs.nodes.Nodes.new.Goals as goal

pub invariant_of-result : goal.invariant_of-result
invariant_of-result c = none_known (Some c.none_noted.result) _ (ap nodes_in c.new.ensures.items)
