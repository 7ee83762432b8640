use Rattle.std.proofs.Common.{◌≡◌, ℕ, List, Some, length, slice_get}
use Rattle.wac_graph_scopes.specs.Behind.{lists_of}
use Rattle.wac_graph_scopes.specs.UsePlaces.{IsNeeds}
use Rattle.wac_graph_scopes.proofs.order.needs_in_order.Given as goal

abbrev pub invariant-loop-at : goal.invariant-loop-at
invariant-loop-at l = record {
  len : length l.needs.items ≡ l.at;
  needs : (k : ℕ) (ns : List ℕ) → slice_get (lists_of l.needs.items) k ≡ Some ns → IsNeeds l.all l.found l.order.keys k ns;
}
