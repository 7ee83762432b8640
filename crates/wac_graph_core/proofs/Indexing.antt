-- Indexes of nodes.
use Rattle.std.proofs.Common.{◌≡◌, ℕ, true, cond, ◌==◌, List, [], ◌∷◌, ◌++◌, sym, ap, ◌∙◌, inl, inr}
use Rattle.std.proofs.lemmas.Bool.{cases_eq}
use Rattle.std.specs.List.{list_any}
use Rattle.wac_graph_core.specs.Edges.{has}
use Rattle.wac_graph_core.specs.NodeSets.{AreIndexed}
use Rattle.wac_graph_core.proofs.Found.{eq_same, eq_false}
use Rattle.wac_graph_core.proofs.Walks.{has_pushed}
use Rattle.wac_graph_core.proofs.Removal.{has-other}

pub indexed_more : (is new ks js : List ℕ) (k : ℕ) → AreIndexed is ks
    → ((j : ℕ) → list_any (λ i. j == i) new ≡ cond (k == j) true (list_any (λ i. j == i) is)) → js ≡ ks ++ k ∷ [] → AreIndexed new js
indexed_more is new ks js k are adds last j =
    adds j ∙ ap (cond (k == j) true) (are j) ∙ elim (cases_eq j k) [
      | inl e ↦ ap (λ b. cond b true (has ks j)) (ap (λ i. k == i) e ∙ eq_same k) ∙ sym (ap (has (ks ++ k ∷ [])) e ∙ has_pushed ks k)
      | inr ne ↦ ap (λ b. cond b true (has ks j)) (eq_false k j (λ e. ne (sym e))) ∙ sym (has-other ks k j ne)
    ] ∙ ap (λ l. has l j) (sym last)
