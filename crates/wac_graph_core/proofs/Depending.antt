-- Edges of dependencies that are added one after another.
use Rattle.std.proofs.Common.{◌≡◌, ◌⊎◌, ℕ, ◌+◌, ◌<◌, ◌≤◌, List, [], ◌∷◌, ◌++◌, length, take, get_or, sym, ap, subst, ◌∙◌, inl, inr}
use Rattle.wac_types_base.specs.Graph.{Among}
use Rattle.std.proofs.lemmas.List.{take_more, take_all}
use Rattle.wac_graph_core.specs.declared.edge.Edge.{Edge}
use Rattle.wac_graph_core.specs.Edges.{AreEdges, IsMadeOf, AddsEach}
use Rattle.wac_graph_core.proofs.Walks.{has-push, has-kept, has_pushed}

module _ (made : ℕ → Edge) where
  pub none_made : (es : List Edge) → AddsEach made es es []
  none_made es d = (λ m. inl m, only d)
    where
      only : (d : Edge) → Among d es ⊎ IsMadeOf made [] d → Among d es
      only d (inl m) = m
      only d (inr r) = absurd (cc (r.1))

  pub next_so : (old mid new : List Edge) (ks : List ℕ) (i k : ℕ) (e : Edge) → AddsEach made old mid (take i ks) → i < length ks → k ≡ get_or ks i k → e ≡ made k → AreEdges new (λ d. Among d mid ⊎ (d ≡ e)) → AddsEach made old new (take (i + 1) ks)
  next_so old mid new ks i k e so within at is step =
      subst (AddsEach made old new) (sym (take_more ks i k within ∙ ap (λ d. take i ks ++ d ∷ []) (sym at))) (λ d. (λ m. forth d ((step d).0 m), back d))
    where
      forth : (d : Edge) → Among d mid ⊎ (d ≡ e) → Among d old ⊎ IsMadeOf made (take i ks ++ k ∷ []) d
      forth d (inl m) = elim ((so d).0 m) [ inl h ↦ inl h | inr r ↦ inr (r.0, has-kept (take i ks) k r.0 r.1, r.2) ]
      forth d (inr same) = inr (k, has_pushed (take i ks) k, same ∙ is)

      back : (d : Edge) → Among d old ⊎ IsMadeOf made (take i ks ++ k ∷ []) d → Among d new
      back d (inl h) = (step d).1 (inl ((so d).1 (inl h)))
      back d (inr r) = elim (has-push (take i ks) k r.0 r.1) [
        | inl within ↦ (step d).1 (inl ((so d).1 (inr (r.0, within, r.2))))
        | inr same ↦ (step d).1 (inr (r.2 ∙ ap made (sym same) ∙ sym is))
      ]

  pub all_made : (old new : List Edge) (ks : List ℕ) (i : ℕ) → AddsEach made old new (take i ks) → length ks ≤ i → AddsEach made old new ks
  all_made old new ks i so past = subst (AddsEach made old new) (take_all i ks past) so
