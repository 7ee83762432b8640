-- Steps that are made twice, or taken back.
use Rattle.std.proofs.Common.{◌≡◌, ◌≢◌, ◌⊎◌, ℕ, refl, sym, ap, subst, ◌∙◌, inl, inr}
use Rattle.wac_types_base.specs.declared.item.ItemKind.{ItemKind}
use Rattle.wac_types_base.specs.Entries.{Name}
use Rattle.wac_types_base.specs.Graph.{Among}
use Rattle.wac_graph_core.specs.declared.edge.Edge.{Edge}
use Rattle.wac_graph_core.specs.Edges.{HasAlias, alias_edge, argument_edge, AreEdges}
use Rattle.wac_graph_core.specs.Graph.{Graph, IsGraph}
use Rattle.wac_graph_core.specs.Steps.{Aliases, AddsArgument, UnsetsArgument, with_edges}
use Rattle.wac_graph_core.proofs.EdgeSteps.{edge_to}

pub alias_twice : (old mid new : Graph) (i j k : ℕ) (n : Name) → IsGraph old → Aliases old mid i n k → Aliases mid new i n j → (j ≡ k) × (new ≡ mid)
alias_twice old mid new i j k n is (inl a) (inl b) = (is.keyed.one_alias i j k n (subst (λ (g : Graph). HasAlias g.edges i n j) a.same b.there) a.there, b.same)
alias_twice old mid new i j k n is (inl a) (inr b) = absurd (b.none k (subst (λ (g : Graph). HasAlias g.edges i n k) (sym a.same) a.there))
alias_twice old mid new i j k n is (inr a) (inl b) = (one ((a.edges (alias_edge i j n)).0 b.there), b.same)
  where
    one : Among (alias_edge i j n) old.edges ⊎ (alias_edge i j n ≡ alias_edge i k n) → j ≡ k
    one (inl m) = absurd (a.none j m)
    one (inr same) = edge_to same
alias_twice old mid new i j k n is (inr a) (inr b) = absurd (b.none k ((a.edges (alias_edge i k n)).1 (inr refl)))

pub unset_after_set : (old mid new : Graph) (i a : ℕ) (n : Name) (item : ItemKind) → AddsArgument old mid i n a item → UnsetsArgument mid new i n a → (new ≡ with_edges old new.edges) × AreEdges new.edges (λ d. Among d old.edges)
unset_after_set old mid new i a n item add unset =
    (unset.made ∙ ap (λ (g : Graph). with_edges g new.edges) add.made, λ d. (to_old d, λ m. (unset.edges d).1 ((add.edges d).1 (inl m), λ same. add.none a (subst (λ d. Among d old.edges) same m))))
  where
    left : (d : Edge) → d ≢ argument_edge a i n → Among d old.edges ⊎ (d ≡ argument_edge a i n) → Among d old.edges
    left d ne (inl m) = m
    left d ne (inr same) = absurd (ne same)

    to_old : (d : Edge) → Among d new.edges → Among d old.edges
    to_old d m = let u = (unset.edges d).0 m in left d u.1 ((add.edges d).0 u.0)
