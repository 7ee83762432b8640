use Rattle.std.proofs.Common.{◌≡◌, ◌<◌, ℕ, Some, length, slice_get}
use Rattle.wac_graph_scopes.specs.Orders.{IsBegun, Puts, PutsEach, turn_places}
use Rattle.wac_graph_scopes.specs.Behind.{lists_of}
use Rattle.wac_graph_scopes.proofs.order.Order.put_all.Given as goal

abbrev pub invariant-loop-at : goal.invariant-loop-at
invariant-loop-at l = record {
  turns : l.self.turns.items ≡ l.initial.self.turns.items;
  needs : l.self.needs.items ≡ l.initial.self.needs.items;
  exactly : PutsEach (lists_of l.initial.self.needs.items) (length l.initial.self.begun.items) (turn_places l.initial.self.turns.items l.turn l.at) l.initial.self.begun.items l.self.begun.items l.initial.self.order.items l.self.order.items;
  puts : Puts l.initial.self.begun.items l.self.begun.items l.initial.self.order.items l.self.order.items;
  begun : (k : ℕ) → k < l.at → slice_get l.initial.self.turns.items k ≡ Some l.turn → k < length l.initial.self.begun.items → IsBegun l.self.begun.items k;
}
