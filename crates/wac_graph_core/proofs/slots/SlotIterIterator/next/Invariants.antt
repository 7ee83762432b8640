use Rattle.std.proofs.Common.{◌≡◌, ◌+◌, ◌<◌, length}
use Rattle.wac_graph_core.specs.Slots.{entries_from}
use Rattle.wac_graph_core.proofs.slots.SlotIterIterator.next.Given as goal

-- only empty slots were passed over
abbrev pub invariant-loop-slot : goal.invariant-loop-slot
invariant-loop-slot l =
    (l.self-inside.index + length l.self-inside.slots.now < 18446744073709551616)
    × (entries_from l.self-inside.index l.self-inside.slots.now ≡ l.fn.self)

abbrev pub decreases-loop-slot : goal.decreases-loop-slot
decreases-loop-slot l = length l.self-inside.slots.now
