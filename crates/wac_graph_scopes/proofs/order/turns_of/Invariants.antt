use Rattle.std.proofs.Common.{◌≡◌, length}
use Rattle.wac_graph_scopes.specs.Orders.{AreTurns}
use Rattle.wac_graph_scopes.proofs.order.turns_of.Given as goal

abbrev pub invariant-loop-at : goal.invariant-loop-at
invariant-loop-at l = (length l.turns.items ≡ l.at) × AreTurns l.all l.turns.items
