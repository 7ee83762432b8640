-- What a search by halving keeps.
use Rattle.std.proofs.Common.{◌≡◌, ◌+◌, ◌-◌, ◌*◌, ◌<◌, ◌≤◌, ◌/◌, ℕ, zero, suc, List, [], ◌∷◌, map, length, Some, sym, ap, ◌∙◌, subst, slice_get, arith}
use Rattle.std.proofs.Math.Nat.{mul-le-mul_left, mul-add, mul_comm, two-pow-succ, eq-or-lt_of_le}
use Rattle.std.proofs.Math.Logic.{⊎_elim}
use Rattle.std.proofs.lemmas.Option.{slice_get_within}
use Rattle.std.specs.Prelude.{◌^◌, unwrap_or}
use Rattle.std.specs.List.{AllByRecursion}
use Rattle.std.specs.Cmp.{IsTotalOrder}
use Rattle.std.specs.Ordering.{ordering_reverse}
use Rattle.std.specs.List.Sorted.{IsStrictlySortedBy}
use Rattle.std.specs.declared.cmp.Ordering.{Ordering}
use Rattle.std.specs.declared.cmp.Ordering.TheVariants.{Less, Greater}

-- n entries, of which s are left after c comparisons
pub record IsHalving (c n s : ℕ) : Type 0 where
  pub digits : 2 ^ c ≤ 2 * n + 1
  pub left : 0 < s → 2 ^ c * s ≤ n

pub begun : (n s : ℕ) → s ≡ n → IsHalving 0 n s
begun n s e = record { digits = omega arith; left = λ h. omega arith }

small : (p n s : ℕ) → 0 < s → p * s ≤ n → p + p ≤ 2 * n + 1
small p n s some k =
    let once : p * 1 ≤ p * s = mul-le-mul_left p (omega arith) in
    omega arith

twice : (p n s t : ℕ) → t + t ≤ s → p * s ≤ n → (p + p) * t ≤ n
twice p n s t half k =
    let less : p * (t + t) ≤ p * s = mul-le-mul_left p half in
    let same : (p + p) * t ≡ p * (t + t) = mul_comm (p + p) t ∙ mul-add t p p ∙ ap (λ x. x + x) (mul_comm t p) ∙ sym (mul-add p t t) in
    omega arith

doubled : (c : ℕ) → 2 ^ (c + 1) ≡ 2 ^ c + 2 ^ c
doubled c = ap (λ k. 2 ^ k) (omega arith) ∙ two-pow-succ c

pub halved : (c n s t : ℕ) → IsHalving c n s → 0 < s → t + t ≤ s → IsHalving (c + 1) n t
halved c n s t k some half = record {
  digits = subst (λ p. p ≤ 2 * n + 1) (sym (doubled c)) (small (2 ^ c) n s some (k.left some));
  left = λ h. subst (λ p. p * t ≤ n) (sym (doubled c)) (twice (2 ^ c) n s t half (k.left some));
}

of_all : {X : Type 0} (P : X → Type 0) (xs : List X) (i : ℕ) (x : X) → AllByRecursion P xs → slice_get xs i ≡ Some x → P x
of_all P [] i x all there = absurd (omega (arith, slice_get_within [] i x there))
of_all P (y ∷ xs) zero x all there = subst P (ap (λ o. unwrap_or o y) there) all.0
of_all P (y ∷ xs) (suc i) x all there = of_all P xs i x all.1 there

place_of_key : {K V : Type 0} (es : List (K × V)) (i : ℕ) (e : K × V) → slice_get es i ≡ Some e → slice_get (map (λ p. p.0) es) i ≡ Some e.0
place_of_key [] i e there = absurd (omega (arith, slice_get_within [] i e there))
place_of_key (d ∷ es) zero e there = ap (λ o. Some ((unwrap_or o d).0)) there
place_of_key (d ∷ es) (suc i) e there = place_of_key es i e there

module _ {K V : Type 0} (order : K → K → Ordering) where
  -- a later key is above an earlier one
  pub rises : (es : List (K × V)) (i j : ℕ) (a b : K × V) → IsStrictlySortedBy order (map (λ e. e.0) es) → i < j
      → slice_get es i ≡ Some a → slice_get es j ≡ Some b → order a.0 b.0 ≡ Less
  unfolding IsStrictlySortedBy
  rises [] i j a b sorted less at_i at_j = absurd (omega (arith, slice_get_within [] i a at_i))
  rises (e ∷ es) i zero a b sorted less at_i at_j = absurd (omega arith)
  rises (e ∷ es) zero (suc j) a b sorted less at_i at_j =
      subst (λ k. order k b.0 ≡ Less) (ap (λ o. (unwrap_or o e).0) at_i)
      (of_all (λ y. order e.0 y ≡ Less) (map (λ p. p.0) es) j b.0 sorted.0 (place_of_key es j b at_j))
  rises (e ∷ es) (suc i) (suc j) a b sorted less at_i at_j = rises es i j a b sorted.1 (omega arith) at_i at_j

  module _ (es : List (K × V)) (key : K) where
    -- c comparisons left the places from low to high open
    pub record IsSought (low high c : ℕ) : Type 0 where
      pub ordered : low ≤ high
      pub fits : high ≤ length es
      pub before : (i : ℕ) (e : K × V) → i < low → slice_get es i ≡ Some e → order e.0 key ≡ Less
      pub behind : (i : ℕ) (e : K × V) → high ≤ i → slice_get es i ≡ Some e → order key e.0 ≡ Less
      pub halving : IsHalving c (length es) (high - low)

    pub starts : (c : ℕ) → c ≡ 0 → IsSought 0 (length es) c
    starts c none = record {
      ordered = omega arith;
      fits = omega arith;
      before = λ i e h there. absurd (omega arith);
      behind = λ i e h there. absurd (omega (arith, slice_get_within es i e there));
      halving = subst (λ k. IsHalving k (length es) (length es - 0)) (sym none) (begun (length es) (length es - 0) (omega arith));
    }

    module _ (total : IsTotalOrder order) (sorted : IsStrictlySortedBy order (map (λ e. e.0) es)) (low high c : ℕ) (k : IsSought low high c) (some : low < high) (e : K × V)
        (there : slice_get es (low + (high - low) / 2) ≡ Some e) where
      same : (d : K × V) → slice_get es (low + (high - low) / 2) ≡ Some d → e ≡ d
      same d at = ap (λ o. unwrap_or o e) (sym there ∙ at)

      under : (i : ℕ) → i < low + (high - low) / 2 + 1 → i ≤ low + (high - low) / 2
      under i h = omega arith

      turned : order e.0 key ≡ Greater → order key e.0 ≡ Less
      turned greater = total.antisymm key e.0 ∙ ap ordering_reverse greater

      pub above : order e.0 key ≡ Less → IsSought (low + (high - low) / 2 + 1) high (c + 1)
      above less = record {
        ordered = omega arith;
        fits = k.fits;
        before = λ i d h at. ⊎_elim
            (λ is. subst (λ x. order x.0 key ≡ Less) (same d (ap (slice_get es) (sym is) ∙ at)) less)
            (λ sooner. total.trans d.0 e.0 key (rises es i _ d e sorted sooner at there) less)
            (eq-or-lt_of_le (under i h));
        behind = k.behind;
        halving = halved c (length es) (high - low) _ k.halving (omega arith) (omega arith);
      }

      pub below : order e.0 key ≡ Greater → IsSought low (low + (high - low) / 2) (c + 1)
      below greater = record {
        ordered = omega arith;
        fits = omega (arith, k.fits);
        before = k.before;
        behind = λ i d h at. ⊎_elim
            (λ is. subst (λ x. order key x.0 ≡ Less) (same d (ap (slice_get es) is ∙ at)) (turned greater))
            (λ later. total.trans key e.0 d.0 (turned greater) (rises es _ i e d sorted later there at))
            (eq-or-lt_of_le h);
        halving = halved c (length es) (high - low) _ k.halving (omega arith) (omega arith);
      }
