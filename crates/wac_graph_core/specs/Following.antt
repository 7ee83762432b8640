-- Single steps of a walk over edges.
use Rattle.std.specs.Prelude.{◌≡◌, ◌⊎◌, ◌≤◌, ◌+◌, ℕ, List, ◌++◌, true, false, length}
use Rattle.wac_types_base.specs.Graph.{Among}
use Rattle.wac_graph_core.specs.declared.edge.Edge.{Edge}
use Rattle.wac_graph_core.specs.declared.edge.Follow.{Follow}
use Rattle.wac_graph_core.specs.Edges.{follows, has}
use Rattle.wac_graph_core.specs.Walking.{outside}
use Rattle.wac_graph_core.specs.declared.tie.Tie.{Tie}
use Rattle.wac_graph_core.specs.Ties.{label_of, end_of}
use Rattle.wac_graph_core.specs.NodeSets.{AddsNode}

-- the node to which the tie leads is added, where it is followed
abbrev pub FollowsTie : Follow → Tie → ℕ → List ℕ → List ℕ → Type 0
FollowsTie f t k old new =
    ((follows f (label_of t) ≡ true) × AddsNode old new (end_of t k)) ⊎ ((follows f (label_of t) ≡ false) × (new ≡ old))

-- an edge that is followed leads from the one node to the other
abbrev pub Leads : Follow → List Edge → ℕ → ℕ → Type 0
Leads f es j k = (e : Edge) × Among e es × (follows f e.label ≡ true) × (e.from ≡ j) × (e.to ≡ k)

-- exactly the nodes to which such an edge leads from this one are added, behind the others
pub record FollowsFrom (f : Follow) (es : List Edge) (j : ℕ) (old new : List ℕ) : Type 0 where
  pub more : List ℕ
  pub put : new ≡ old ++ more
  pub sound : (k : ℕ) → has new k ≡ true → (has old k ≡ true) ⊎ Leads f es j k
  pub complete : (k : ℕ) → Leads f es j k → has new k ≡ true
  -- each node that is added ends an edge that ended outside
  pub fewer : outside new es + length new ≤ outside old es + length old
