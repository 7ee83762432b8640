-- Lists of nodes that grow.
use Rattle.std.proofs.Common.{◌≡◌, ◌⊎◌, ℕ, true, List, [], ◌∷◌, Some, refl, sym, ap, subst, ◌∙◌, inl, inr}
use Rattle.std.specs.FinMap as map
use Rattle.wac_types_base.specs.Graph.{Among}
use Rattle.wac_graph_core.specs.Nodes.{NodeData}
use Rattle.wac_graph_core.specs.NodeMaps.{NodeMap, AreThose, AddsIf}
use Rattle.wac_graph_core.specs.Edges.{has}
use Rattle.wac_graph_core.proofs.Listed.{Among-entries}
use Rattle.wac_graph_core.proofs.Walks.{has-push, has-kept, has_pushed}

-- what was there is there, and the new one where it is so
gathered_kept : (P : Type 0) (old new : List ℕ) (k j : ℕ) → AddsIf P old new k → has old j ≡ true → has new j ≡ true
gathered_kept P old new k j (inl a) h = ap (λ l. has l j) a.1 ∙ has-kept old k j h
gathered_kept P old new k j (inr a) h = ap (λ l. has l j) a.1 ∙ h

gathered_there : (P : Type 0) (old new : List ℕ) (k : ℕ) → AddsIf P old new k → P → has new k ≡ true
gathered_there P old new k (inl a) p = ap (λ l. has l k) a.1 ∙ has_pushed old k
gathered_there P old new k (inr a) p = absurd (a.0 p)

gathered_only : (P : Type 0) (old new : List ℕ) (k j : ℕ) → AddsIf P old new k → has new j ≡ true → (has old j ≡ true) ⊎ (P × (k ≡ j))
gathered_only P old new k j (inl a) h = elim (has-push old k j (ap (λ l. has l j) (sym a.1) ∙ h)) [ inl old_one ↦ inl old_one | inr same ↦ inr (a.0, same) ]
gathered_only P old new k j (inr a) h = inl (ap (λ l. has l j) (sym a.1) ∙ h)

pub none_in : (l : List ℕ) (k : ℕ) → l ≡ [] → has l k ≡ true → ⊥
none_in l k none h = absurd (cc (ap (λ l. has l k) none, h))

-- ---- nodes looked at one after another

-- of the nodes that are so each is in the list or still to come, and the list has no others
pub record IsGathering (nodes : NodeMap) (IsSo : NodeData → Type 0) (found : List ℕ) (left : List (ℕ × NodeData)) : Type 0 where
  pub all : (k : ℕ) (x : NodeData) → map.get nodes k ≡ Some x → IsSo x → (has found k ≡ true) ⊎ Among (k, x) left
  pub coming : (k : ℕ) (x : NodeData) → Among (k, x) left → map.get nodes k ≡ Some x
  pub only : (k : ℕ) → has found k ≡ true → (x : NodeData) × (map.get nodes k ≡ Some x) × IsSo x

module _ (nodes : NodeMap) (IsSo : NodeData → Type 0) where
  pub gathering_first : (found : List ℕ) (left : List (ℕ × NodeData)) → found ≡ [] → left ≡ map.entries nodes → IsGathering nodes IsSo found left
  gathering_first found left none all = record {
    all = λ k x at so. inr (subst (Among (k, x)) (sym all) ((Among-entries nodes k x).1 at));
    coming = λ k x there. (Among-entries nodes k x).0 (subst (Among (k, x)) all there);
    only = λ k h. absurd (none_in found k none h);
  }

  pub gathering_next : (found new : List ℕ) (k : ℕ) (x : NodeData) (left rest : List (ℕ × NodeData)) → left ≡ (k, x) ∷ rest → AddsIf (IsSo x) found new k → IsGathering nodes IsSo found left → IsGathering nodes IsSo new rest
  gathering_next found new k x left rest first adds g = record {
    all = λ j y at so. elim (g.all j y at so) [
      | inl old ↦ inl (gathered_kept (IsSo x) found new k j adds old)
      | inr there ↦ elim (among_cons j y (subst (Among (j, y)) first there)) [
        | inl same ↦
            let node : IsSo x = subst IsSo (ap (λ (e : ℕ × NodeData). e.1) same) so in
            inl (subst (λ i. has new i ≡ true) (sym (ap (λ (e : ℕ × NodeData). e.0) same)) (gathered_there (IsSo x) found new k adds node))
        | inr later ↦ inr later
      ]
    ];
    coming = λ j y there. g.coming j y (subst (Among (j, y)) (sym first) (inr there));
    only = λ j h. elim (gathered_only (IsSo x) found new k j adds h) [
      | inl old ↦ g.only j old
      | inr own ↦ (x, ap (map.get nodes) (sym own.1) ∙ at_first, own.0)
    ];
  }
    where
      among_cons : (j : ℕ) (y : NodeData) → Among (j, y) ((k, x) ∷ rest) → (◌≡◌ {A = ℕ × NodeData} (j, y) (k, x)) ⊎ Among (j, y) rest
      among_cons j y m = m

      at_first : map.get nodes k ≡ Some x
      at_first = g.coming k x (subst (Among (k, x)) (sym first) (inl refl))

  pub gathering_done : (found : List ℕ) (left : List (ℕ × NodeData)) → left ≡ [] → IsGathering nodes IsSo found left → AreThose nodes IsSo found
  gathering_done found left none g k = (
    g.only k,
    λ r. elim (g.all k r.0 r.1 r.2) [
      | inl there ↦ there
      | inr coming ↦ absurd (subst (Among (k, r.0)) none coming)
    ],
  )

  -- the first of those that are left
  pub gathering_at : (found : List ℕ) (k : ℕ) (x : NodeData) (left rest : List (ℕ × NodeData)) → left ≡ (k, x) ∷ rest → IsGathering nodes IsSo found left → map.get nodes k ≡ Some x
  gathering_at found k x left rest first g = g.coming k x (subst (Among (k, x)) (sym first) (inl refl))

  -- none was found
  pub gathering_none : (left : List (ℕ × NodeData)) → left ≡ [] → IsGathering nodes IsSo [] left → (k : ℕ) (x : NodeData) → map.get nodes k ≡ Some x → IsSo x → ⊥
  gathering_none left none g k x at so = absurd (cc ((gathering_done [] left none g k).1 (x, at, so)))
