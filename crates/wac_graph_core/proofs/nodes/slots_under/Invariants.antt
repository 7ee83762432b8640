use Rattle.std.proofs.Common.{◌≡◌, map, take}
use Rattle.std.specs.Prelude.{option_map}
use Rattle.wac_graph_core.specs.Copying.{node_under}
use Rattle.wac_graph_core.proofs.nodes.slots_under.Given as goal

abbrev pub invariant-loop-slot : goal.invariant-loop-slot
invariant-loop-slot l = l.copies.items ≡ map (option_map (node_under l.number)) (take l.slot-index l.slots)
