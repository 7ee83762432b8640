use Rattle.std.proofs.Common.{◌≡◌, ℕ, List, Some, length, slice_get}
use Rattle.wac_graph_scopes.specs.Behind.{lists_of}
use Rattle.wac_graph_scopes.specs.Imports.{all_exports}
use Rattle.wac_graph_scopes.specs.UsePlaces.{ItemUses}
use Rattle.wac_graph_scopes.proofs.order.needs_found.Given as goal

abbrev pub invariant-loop-at : goal.invariant-loop-at
invariant-loop-at l = record {
  len : length (lists_of l.needs.items) ≡ l.at;
  uses : (k : ℕ) (ns : List ℕ) → slice_get (lists_of l.needs.items) k ≡ Some ns → ItemUses l.all.types.now (all_exports l.all) l.found k ns;
}
