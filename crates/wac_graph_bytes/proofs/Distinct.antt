-- The test of distinct names tells whether they are distinct.
use Rattle.std.proofs.Common.{◌≡◌, Bool, true, false, List, [], ◌∷◌, refl, sym, ap, ◌∙◌, inl, inr}
use Rattle.std.specs.Prelude.{not}
use Rattle.std.specs.Bool.{Decides}
use Rattle.std.proofs.lemmas.Bool.{and_from, and_parts, not-true}
use Rattle.std.proofs.lemmas.Slice.Eq.{bytes_eq-Decides}
use Rattle.wac_types_base.specs.Entries.{Name, AreDistinct}
use Rattle.wac_types_base.specs.Graph.{Among}
use Rattle.wac_graph_bytes.specs.Typing.{same_name, same_pair, is_new, are_distinct, distinct_names}

true_false : true ≡ false → ⊥
true_false e = cc

module _ {K : Type 0} (same : K → K → Bool) (decides : (a b : K) → Decides (same a b) (a ≡ b)) where
  differ : (a b : K) (t : Bool) → same a b ≡ t → (a ≡ b → ⊥) → not t ≡ true
  differ a b false e n = refl
  differ a b true e n = absurd (n ((decides a b).0 e))

  new_test : (n : K) (ns : List K) → (Among n ns → ⊥) → is_new same n ns ≡ true
  new_test n [] h = refl
  new_test n (m ∷ ns) h = and_from _ _ (differ n m (same n m) refl (λ e. h (inl e))) (new_test n ns (λ a. h (inr a)))

  new_is : (n : K) (ns : List K) → is_new same n ns ≡ true → Among n ns → ⊥
  new_is n [] e a = a
  new_is n (m ∷ ns) e a =
      let p = and_parts (not (same n m)) (is_new same n ns) e in
      elim a [ inl h ↦ true_false (sym ((decides n m).1 h) ∙ not-true (same n m) p.0) | inr b ↦ new_is n ns p.1 b ]

  pub distinct_by : (ns : List K) → Decides (are_distinct same ns) (AreDistinct ns)
  distinct_by [] = (λ e. tt, λ d. refl)
  distinct_by (n ∷ ns) = (
    λ e. let p = and_parts (is_new same n ns) (are_distinct same ns) e in (new_is n ns p.0, (distinct_by ns).0 p.1),
    λ d. and_from _ _ (new_test n ns d.0) ((distinct_by ns).1 d.1),
  )

-- names are the same where the test says so
pub same_name_decides : (a b : Name) → Decides (same_name a b) (a ≡ b)
same_name_decides a b = bytes_eq-Decides a b

pub same_pair_decides : (a b : Name × Name) → Decides (same_pair a b) (a ≡ b)
same_pair_decides a b = (
  λ e.
      let p = and_parts (same_name a.0 b.0) (same_name a.1 b.1) e in
      let f : Name → Name × Name = λ x. (x, a.1) in
      let g : Name → Name × Name = λ y. (b.0, y) in
      ap f ((same_name_decides a.0 b.0).0 p.0) ∙ ap g ((same_name_decides a.1 b.1).0 p.1),
  λ e. and_from _ _ ((same_name_decides a.0 b.0).1 (ap (λ (p : Name × Name). p.0) e)) ((same_name_decides a.1 b.1).1 (ap (λ (p : Name × Name). p.1) e)),
)

-- the test of distinct names
pub distinct_decides : (ns : List Name) → Decides (distinct_names ns) (AreDistinct ns)
distinct_decides = distinct_by same_name same_name_decides
