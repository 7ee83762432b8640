use Rattle.std.proofs.Common.{◌+◌, ◌-◌, length}
use Rattle.wac_graph_core.specs.TieSteps.{IsRoomier}
use Rattle.wac_graph_core.proofs.places.make_places.Given as goal

abbrev pub invariant-loop-alloc : goal.invariant-loop-alloc
invariant-loop-alloc l = IsRoomier l.initial.ties.items l.ties.items

abbrev pub decreases-loop-alloc : goal.decreases-loop-alloc
decreases-loop-alloc l = l.node + 1 - length l.ties.items
