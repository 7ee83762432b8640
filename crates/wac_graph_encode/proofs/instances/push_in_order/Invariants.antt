use Rattle.std.proofs.Common.{take}
use Rattle.wac_graph_encode.specs.Writing.{AddsAt}
use Rattle.wac_graph_encode.proofs.instances.push_in_order.Given as goal

abbrev pub invariant-loop-at : goal.invariant-loop-at
invariant-loop-at l = AddsAt l.nodes.entries l.exported l.graph.exports (take l.at-index l.order) l.initial.entries.items l.entries.items
