-- What is in a list in the order of its keys, once an entry is found, put in or taken out.
use Rattle.std.proofs.Common.{◌≡◌, ◌≢◌, ◌⊎◌, ◌↔◌, ◌<◌, ◌≤◌, ℕ, zero, suc, List, [], ◌∷◌, map, insert, remove, Some, refl, sym, ap, ◌∙◌, subst, slice_get, inl, inr, arith}
use Rattle.std.specs.Cmp.{IsTotalOrder}
use Rattle.std.specs.List.{AllByRecursion}
use Rattle.std.specs.Ordering.{ordering_reverse}
use Rattle.std.specs.List.Sorted.{IsStrictlySortedBy}
use Rattle.std.specs.declared.cmp.Ordering.{Ordering}
use Rattle.std.specs.declared.cmp.Ordering.TheVariants.{Less, Equal, Greater}
use Rattle.wac_types_base.specs.Graph.{Among}
use Rattle.wac_types_base.proofs.Looked.{among-get}
use Rattle.wac_graph_core.specs.Sorted.{Belongs}

itself : (o : Ordering) → o ≡ ordering_reverse o → o ≡ Equal
itself Less e = absurd (cc e)
itself Equal e = refl
itself Greater e = absurd (cc e)

-- an entry put in
pub put_in : {X : Type 0} (xs : List X) (p : ℕ) (x y : X) → Among y (insert xs p x) → Among y xs ⊎ (y ≡ x)
put_in [] zero x y (inl e) = inr e
put_in [] zero x y (inr m) = absurd m
put_in [] (suc p) x y (inl e) = inr e
put_in [] (suc p) x y (inr m) = absurd m
put_in (z ∷ xs) zero x y (inl e) = inr e
put_in (z ∷ xs) zero x y (inr m) = inl m
put_in (z ∷ xs) (suc p) x y (inl e) = inl (inl e)
put_in (z ∷ xs) (suc p) x y (inr m) = elim (put_in xs p x y m) [ inl n ↦ inl (inr n) | inr e ↦ inr e ]

pub in_put : {X : Type 0} (xs : List X) (p : ℕ) (x y : X) → Among y xs ⊎ (y ≡ x) → Among y (insert xs p x)
in_put [] zero x y (inl m) = absurd m
in_put [] zero x y (inr e) = inl e
in_put [] (suc p) x y (inl m) = absurd m
in_put [] (suc p) x y (inr e) = inl e
in_put (z ∷ xs) zero x y (inl m) = inr m
in_put (z ∷ xs) zero x y (inr e) = inl e
in_put (z ∷ xs) (suc p) x y (inl (inl e)) = inl e
in_put (z ∷ xs) (suc p) x y (inl (inr m)) = inr (in_put xs p x y (inl m))
in_put (z ∷ xs) (suc p) x y (inr e) = inr (in_put xs p x y (inr e))

module _ {K : Type 0} (order : K → K → Ordering) (total : IsTotalOrder order) where
  pub same_key : (k : K) → order k k ≡ Equal
  same_key k = itself (order k k) (total.antisymm k k)

  equal_back : (a b : K) → order a b ≡ Equal → order b a ≡ Equal
  equal_back a b e = total.antisymm b a ∙ ap ordering_reverse e

  not_less : (a b : K) → order a b ≡ Less → order a b ≡ Equal → ⊥
  not_less a b l e = absurd (cc (l, e))

  not_greater : (a b : K) → order b a ≡ Less → order a b ≡ Equal → ⊥
  not_greater a b l e = not_less b a l (equal_back a b e)

  module _ {V : Type 0} where
    pub below_among : (k : K) (es : List (K × V)) (e : K × V) → AllByRecursion (λ y. order k y ≡ Less) (map (λ x. x.0) es) → Among e es → order k e.0 ≡ Less
    below_among k [] e all m = absurd m
    below_among k (d ∷ es) e all (inl same) = subst (λ (x : K × V). order k x.0 ≡ Less) (sym same) all.0
    below_among k (d ∷ es) e all (inr m) = below_among k es e all.1 m

    -- a key stands there once
    pub one_entry : (es : List (K × V)) → IsStrictlySortedBy order (map (λ x. x.0) es) → (a b : K × V) → Among a es → Among b es → order a.0 b.0 ≡ Equal → a ≡ b
    unfolding IsStrictlySortedBy
    one_entry [] sorted a b m n e = absurd m
    one_entry (d ∷ es) sorted a b (inl p) (inl q) e = p ∙ sym q
    one_entry (d ∷ es) sorted a b (inl p) (inr n) e = absurd (not_less a.0 b.0 (subst (λ (x : K × V). order x.0 b.0 ≡ Less) (sym p) (below_among d.0 es b sorted.0 n)) e)
    one_entry (d ∷ es) sorted a b (inr m) (inl q) e = absurd (not_greater a.0 b.0 (subst (λ (x : K × V). order x.0 a.0 ≡ Less) (sym q) (below_among d.0 es a sorted.0 m)) e)
    one_entry (d ∷ es) sorted a b (inr m) (inr n) e = one_entry es sorted.1 a b m n e

    -- where a key belongs it is not there
    none_before : (es : List (K × V)) (key : K) (p : ℕ) → ((i : ℕ) (e : K × V) → i < p → slice_get es i ≡ Some e → order e.0 key ≡ Less) → ((i : ℕ) (e : K × V) → p ≤ i → slice_get es i ≡ Some e → order key e.0 ≡ Less)
        → (e : K × V) → Among e es → order e.0 key ≡ Equal → ⊥
    none_before [] key p before behind e m is = m
    none_before (d ∷ es) key zero before behind e (inl same) is = not_greater e.0 key (subst (λ (x : K × V). order key x.0 ≡ Less) (sym same) (behind 0 d (omega arith) refl)) is
    none_before (d ∷ es) key zero before behind e (inr m) is = none_before es key zero (λ i x h at. absurd (omega arith)) (λ i x h at. behind (suc i) x (omega arith) at) e m is
    none_before (d ∷ es) key (suc p) before behind e (inl same) is = not_less e.0 key (subst (λ (x : K × V). order x.0 key ≡ Less) (sym same) (before 0 d (omega arith) refl)) is
    none_before (d ∷ es) key (suc p) before behind e (inr m) is = none_before es key p (λ i x h at. before (suc i) x (omega arith) at) (λ i x h at. behind (suc i) x (omega arith) at) e m is

    pub none_there : (es : List (K × V)) (key : K) (p : ℕ) → Belongs order es key p → (e : K × V) → Among e es → order e.0 key ≡ Equal → ⊥
    none_there es key p b e m is = none_before es key p b.before b.behind e m is

    -- an entry taken out: each other one is left
    pub out_from : (es : List (K × V)) (p : ℕ) (e : K × V) → IsStrictlySortedBy order (map (λ x. x.0) es) → slice_get es p ≡ Some e
        → (y : K × V) → Among y (remove es p) ↔ (Among y es × (order y.0 e.0 ≢ Equal))
    unfolding IsStrictlySortedBy
    out_from [] p e sorted at y = absurd (cc at)
    out_from (d ∷ es) zero e sorted at y =
        let same : d ≡ e = cc at in (
          λ m. (inr m, λ is. not_greater y.0 e.0 (subst (λ (x : K × V). order x.0 y.0 ≡ Less) same (below_among d.0 es y sorted.0 m)) is),
          λ h. elim h.0 [ inl q ↦ absurd (h.1 (ap (λ (x : K × V). order x.0 e.0) (q ∙ same) ∙ same_key e.0)) | inr m ↦ m ],
        )
    out_from (d ∷ es) (suc p) e sorted at y =
        let rest = out_from es p e sorted.1 at y in
        let low : order d.0 e.0 ≡ Less = below_among d.0 es e sorted.0 (among-get es p e at) in (
          λ m. elim m [ inl q ↦ (inl q, λ is. not_less y.0 e.0 (subst (λ (x : K × V). order x.0 e.0 ≡ Less) (sym q) low) is) | inr n ↦ let r = rest.0 n in (inr r.0, r.1) ],
          λ h. elim h.0 [ inl q ↦ inl q | inr n ↦ inr (rest.1 (n, h.1)) ],
        )
