use Rattle.std.proofs.Common.{◌≡◌, ℕ, List, Some, length, slice_get}
use Rattle.wac_graph_scopes.specs.Behind.{lists_of}
use Rattle.wac_graph_scopes.specs.UsePlaces.{HasUses}
use Rattle.wac_graph_scopes.proofs.order.uses_of_imports.Given as goal

abbrev pub invariant-loop-at : goal.invariant-loop-at
invariant-loop-at l = record {
  len : length (lists_of l.uses.items) ≡ l.at;
  uses : (k : ℕ) (ns : List ℕ) → slice_get (lists_of l.uses.items) k ≡ Some ns → HasUses l.all l.found k ns;
}
