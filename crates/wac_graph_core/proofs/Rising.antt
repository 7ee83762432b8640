-- Rising lists of nodes: one with exactly the nodes that pass a test is the filtered list of all.
use Rattle.std.specs.Prelude.{T}
use Rattle.std.specs.FinMap as finite
use Rattle.std.specs.FinMap.{is_sorted}
use Rattle.std.specs.Ordering.{nat_cmp}
use Rattle.std.proofs.Common.{◌≡◌, ℕ, ◌<◌, Bool, true, false, cond, List, [], ◌∷◌, ◌++◌, map, filter, Some, refl, sym, subst, inl, inr, arith}
use Rattle.wac_types_base.specs.Entries.{AreDistinct}
use Rattle.wac_types_base.specs.Graph.{Among}
use Rattle.wac_types_base.proofs.Lists.{among_last, among_mapped, among_filtered}
use Rattle.wac_graph_core.specs.Nodes.{NodeData}
use Rattle.wac_graph_core.specs.NodeMaps.{NodeMap, Rises}
use Rattle.wac_graph_core.proofs.Found.{passes}
use Rattle.wac_graph_core.proofs.Listed.{Among-entries, both_parts, first_below}

pub rises_more : (ks : List ℕ) (k : ℕ) → Rises ks → ((j : ℕ) → Among j ks → j < k) → Rises (ks ++ k ∷ [])
rises_more [] k r below = ((λ j m. absurd m), tt)
rises_more (x ∷ ks) k r below = (
  λ j m. elim (among_last j k ks m) [ inl n ↦ r.0 j n | inr e ↦ subst (λ i. x < i) (sym e) (below x (inl refl)) ],
  rises_more ks k r.1 (λ j m. below j (inr m)),
)

pub rises_apart : (ks : List ℕ) → Rises ks → AreDistinct ks
rises_apart [] r = tt
rises_apart (k ∷ ks) r = ((λ m. let h = r.0 k m in absurd (omega (arith, h))), rises_apart ks r.1)

-- ---- two rising lists of the same numbers are one

same_first : (j k : ℕ) (js ks : List ℕ) → Rises (j ∷ js) → Rises (k ∷ ks) → Among j (k ∷ ks) → Among k (j ∷ js) → j ≡ k
same_first j k js ks r s (inl e) n = e
same_first j k js ks r s (inr m) (inl e) = sym e
same_first j k js ks r s (inr m) (inr n) = let h = s.0 j m in let i = r.0 k n in absurd (omega (arith, h, i))

others : (j k i : ℕ) (js ks : List ℕ) → Rises (j ∷ js) → j ≡ k → Among i js → Among i (k ∷ ks) → Among i ks
others j k i js ks r same m (inl e) = let h = r.0 i m in absurd (omega (arith, h, same, e))
others j k i js ks r same m (inr n) = n

pub same_rising : (js ks : List ℕ) → Rises js → Rises ks → ((i : ℕ) → Among i js → Among i ks) → ((i : ℕ) → Among i ks → Among i js) → js ≡ ks
same_rising [] [] r s to back = refl
same_rising [] (k ∷ ks) r s to back = absurd (back k (inl refl))
same_rising (j ∷ js) [] r s to back = absurd (to j (inl refl))
same_rising (j ∷ js) (k ∷ ks) r s to back =
    let same = same_first j k js ks r s (to j (inl refl)) (back k (inl refl)) in
    let rest = same_rising js ks r.1 s.1 (λ i m. others j k i js ks r same m (to i (inr m))) (λ i m. others k j i ks js s (sym same) m (back i (inr m))) in
    λ i. same i ∷ rest i

-- ---- the indexes of all nodes

abbrev pub indexes : List (ℕ × NodeData) → List ℕ
indexes es = map (λ e. e.0) es

index_among : (es : List (ℕ × NodeData)) (k : ℕ) → Among k (indexes es) → (x : NodeData) × Among (k, x) es
index_among [] k m = absurd m
index_among (e ∷ es) k (inl same) = (e.1, inl (λ i. (same i, e.1)))
index_among (e ∷ es) k (inr m) = let r = index_among es k m in (r.0, inr r.1)

sorted_rise : (es : List (ℕ × NodeData)) → T (is_sorted nat_cmp es) → Rises (indexes es)
sorted_rise [] s = tt
sorted_rise (e ∷ es) s =
    let parts = both_parts _ _ s in
    ((λ j m. let r = index_among es j m in first_below e.0 j r.0 es parts.0 r.1), sorted_rise es parts.1)

passing_rise : (p : ℕ × NodeData → Bool) (es : List (ℕ × NodeData)) → Rises (indexes es) → Rises (indexes (filter p es))
passing_rise p [] r = tt
passing_rise p (e ∷ es) r = by_test (p e) (passing_rise p es r.1)
  where
    by_test : (b : Bool) → Rises (indexes (filter p es)) → Rises (indexes (cond b (e ∷ filter p es) (filter p es)))
    by_test true h = (
      λ j m. let i = index_among (filter p es) j m in r.0 j (among_mapped (λ (e : ℕ × NodeData). e.0) es (j, i.0) (among_filtered p es (j, i.0) i.1).0),
      h,
    )
    by_test false h = h

-- a rising list of exactly the nodes that pass is that of the nodes that pass, one after another
pub passing_are : (nodes : NodeMap) (p : ℕ × NodeData → Bool) (ks : List ℕ) → Rises ks
    → ((k : ℕ) → Among k ks → (x : NodeData) × (finite.get nodes k ≡ Some x) × (p (k, x) ≡ true))
    → ((k : ℕ) (x : NodeData) → finite.get nodes k ≡ Some x → p (k, x) ≡ true → Among k ks)
    → ks ≡ indexes (filter p (finite.entries nodes))
passing_are nodes p ks r each all =
    let es = finite.entries nodes in
    same_rising ks (indexes (filter p es)) r (passing_rise p es (sorted_rise es (finite.entries_sorted nodes)))
    (λ k m. let x = each k m in among_mapped (λ (e : ℕ × NodeData). e.0) (filter p es) (k, x.0) (passes p es (k, x.0) x.2 ((Among-entries nodes k x.0).1 x.1)))
    (λ k m. let i = index_among (filter p es) k m in let f = among_filtered p es (k, i.0) i.1 in all k i.0 ((Among-entries nodes k i.0).0 f.0) f.1)
