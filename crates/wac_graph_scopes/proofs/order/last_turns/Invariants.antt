use Rattle.std.proofs.Common.{◌≡◌, ◌<◌, ℕ, Some, length, slice_get}
use Rattle.wac_graph_scopes.specs.declared.order.Turn.{Turn}
use Rattle.wac_graph_scopes.proofs.order.last_turns.Given as goal

abbrev pub invariant-loop-at : goal.invariant-loop-at
invariant-loop-at l = record { len : length l.turns.items ≡ l._at; last : (k : ℕ) → k < l._at → slice_get l.turns.items k ≡ Some Turn.Others }
