use Rattle.std.proofs.Common.{◌≡◌, ℕ, true, take}
use Rattle.wac_graph_core.specs.Edges.{has}
use Rattle.wac_graph_core.specs.TieSteps.{IsRoomier, HasRoom}
use Rattle.wac_graph_core.proofs.places.make_rooms.Given as goal

abbrev pub invariant-loop-node : goal.invariant-loop-node
invariant-loop-node l = IsRoomier l.initial.ties.items l.ties.items × ((k : ℕ) → has (take l.node-index l.nodes) k ≡ true → HasRoom l.ties.items k 1)
