use Rattle.std.proofs.Common.{◌≡◌, vec_len}
use Rattle.wac_graph_core.specs.Slots.{nodes_in}
use Rattle.wac_graph_core.proofs.slots.trim.Given as goal

-- the same nodes
abbrev pub invariant-loop-slot : goal.invariant-loop-slot
invariant-loop-slot l = nodes_in l.slots.items ≡ nodes_in l.initial.slots.items

abbrev pub decreases-loop-slot : goal.decreases-loop-slot
decreases-loop-slot l = vec_len l.slots
