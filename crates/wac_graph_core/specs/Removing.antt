-- What a removal leaves.
use Rattle.std.specs.Prelude.{◌≡◌, ℕ, List, true, not, filter}
use Rattle.std.specs.FinMap as map
use Rattle.wac_types_base.specs.Entries.{Name}
use Rattle.wac_types_base.specs.Graph.{Among}
use Rattle.wac_graph_core.specs.declared.edge.Edge.{Edge}
use Rattle.wac_graph_core.specs.declared.edge.Follow.{Follow}
use Rattle.wac_graph_core.specs.Edges.{has, Stays, AreEdges, IsReached, follows}
use Rattle.wac_graph_core.specs.Graph.{Graph}

-- no edge that is followed leads out of the list
abbrev pub IsClosed : Follow → List Edge → List ℕ → Type 0
IsClosed f es gone = (e : Edge) → Among e es → follows f e.label ≡ true → has gone e.from ≡ true → has gone e.to ≡ true

-- these nodes are away, with their names and edges; the exports that are left keep their order
pub record TakesNodes (old new : Graph) (gone : List ℕ) : Type 0 where
  pub edges : AreEdges new.edges (λ d. Among d old.edges × (Stays gone d.from × Stays gone d.to))
  pub made : new ≡ record old {
    nodes = map.retain_keys old.nodes (λ k. not (has gone k));
    edges = new.edges;
    exports = filter (λ (e : Name × ℕ). not (has gone e.1)) old.exports;
  }

-- exactly the starts and what is reached from them over aliases and dependencies is away
pub record RemovesNodes (old new : Graph) (starts : List ℕ) : Type 0 where
  pub gone : List ℕ
  pub reached : IsReached Follow.Owned old.edges starts gone
  pub taken : TakesNodes old new gone
