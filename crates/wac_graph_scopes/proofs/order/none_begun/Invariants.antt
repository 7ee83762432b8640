use Rattle.std.proofs.Common.{◌≡◌, ℕ, length}
use Rattle.wac_graph_scopes.specs.Orders.{IsBegun}
use Rattle.wac_graph_scopes.proofs.order.none_begun.Given as goal

abbrev pub invariant-loop-at : goal.invariant-loop-at
invariant-loop-at l = record { len : length l.begun.items ≡ l._at; none : (k : ℕ) → IsBegun l.begun.items k → ⊥ }
