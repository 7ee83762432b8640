-- Sets of nodes, listed in the order in which they came, with their indexes.
use Rattle.std.specs.Prelude.{◌≡◌, ◌⊎◌, ℕ, List, ◌∷◌, [], ◌++◌, true, false, ◌==◌}
use Rattle.std.specs.List.{list_any}
use Rattle.wac_graph_core.specs.Edges.{has}

-- the indexes are those of the nodes
abbrev pub AreIndexed : List ℕ → List ℕ → Type 0
AreIndexed is ks = (k : ℕ) → list_any (λ i. k == i) is ≡ has ks k

-- the node is in, and comes last where it was not
abbrev pub AddsNode : List ℕ → List ℕ → ℕ → Type 0
AddsNode old new k = ((has old k ≡ true) × (new ≡ old)) ⊎ ((has old k ≡ false) × (new ≡ old ++ k ∷ []))
