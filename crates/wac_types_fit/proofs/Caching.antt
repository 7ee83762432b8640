-- Members of lists that a set's calls give.
use Rattle.std.proofs.Common.{◌≡◌, ℕ, zero, suc, ◌<◌, List, [], ◌∷◌, length, get_or, Bool, true, false, cond, Option, Some, None, refl, sym, subst, ◌⊎◌, inl, inr, arith}
use Rattle.std.specs.List.{Contains, find}
use Rattle.std.specs.List.Sorted.{IsPermutation}
use Rattle.std.specs.Prelude.{MatchOption}
use Rattle.std.specs.Set.{swap_key}
use Rattle.std.proofs.lemmas.List.Sorted.{Contains-permutation, IsPermutation-sym}
use Rattle.wac_types_base.specs.Graph.{Among}

by_found : {X : Type 0} (b : Bool) (x : X) (xs : List X) (p : X) (o : Option X) → (o ≡ Some p → Among p xs) → cond b (Some x) o ≡ Some p → Among p (x ∷ xs)
by_found true x xs p o h e = inl (cc e)
by_found false x xs p o h e = inr (h e)

pub found-among : {X : Type 0} (test : X → Bool) (xs : List X) (p : X) → find test xs ≡ Some p → Among p xs
found-among test [] p e = absurd (cc e)
found-among test (x ∷ xs) p e = by_found (test x) x xs p (find test xs) (found-among test xs p) e

pub among-contains : {X : Type 0} (xs : List X) (x : X) → Among x xs → Contains xs x
among-contains [] x m = absurd m
among-contains (y ∷ ys) x (inl e) = (0, omega arith, sym e)
among-contains (y ∷ ys) x (inr m) = let c = among-contains ys x m in (suc c.0, omega (arith, c.1), c.2)

pub contains-among : {X : Type 0} (xs : List X) (x : X) → Contains xs x → Among x xs
contains-among xs x c = at c.0 xs x c.1 c.2
  where
    at : {X : Type 0} (k : ℕ) (xs : List X) (x : X) → k < length xs → get_or xs k x ≡ x → Among x xs
    at k [] x h e = absurd (omega arith)
    at zero (y ∷ ys) x h e = inl (sym e)
    at (suc k) (y ∷ ys) x h e = inr (at k ys x (omega arith) e)

pub permuted-among : {X : Type 0} (k x : X) (xs ys : List X) → IsPermutation (k ∷ xs) ys → Among x ys → Among x xs ⊎ (x ≡ k)
permuted-among k x xs ys p m =
    elim (contains-among (k ∷ xs) x (Contains-permutation ys (k ∷ xs) x (IsPermutation-sym (k ∷ xs) ys p) (among-contains ys x m))) [ inl e ↦ inr e | inr n ↦ inl n ]

-- k in the place of a key brings nothing else
swapped : {X : Type 0} (b : Bool) (k x y : X) (xs rest : List X) → (Among x rest → Among x xs ⊎ (x ≡ k)) → Among x (cond b (k ∷ xs) (y ∷ rest)) → Among x (y ∷ xs) ⊎ (x ≡ k)
swapped true k x y xs rest h (inl e) = inr e
swapped true k x y xs rest h (inr m) = inl (inr m)
swapped false k x y xs rest h (inl e) = inl (inl e)
swapped false k x y xs rest h (inr m) = elim (h m) [ inl n ↦ inl (inr n) | inr e ↦ inr e ]

swapped-among : {X : Type 0} (test : X → Bool) (xs : List X) (k x : X) → Among x (swap_key test xs k) → Among x xs ⊎ (x ≡ k)
swapped-among test [] k x m = absurd m
swapped-among test (y ∷ xs) k x m = swapped (test y) k x y xs (swap_key test xs k) (swapped-among test xs k x) m

swapped_in : {X : Type 0} (b : Bool) (k y z : X) (xs rest : List X) (o : Option X) → (o ≡ Some z → Among k rest) → cond b (Some y) o ≡ Some z → Among k (cond b (k ∷ xs) (y ∷ rest))
swapped_in true k y z xs rest o h e = inl refl
swapped_in false k y z xs rest o h e = inr (h e)

-- and k is there, where a key passes the test
swapped-there : {X : Type 0} (test : X → Bool) (xs : List X) (k z : X) → find test xs ≡ Some z → Among k (swap_key test xs k)
swapped-there test [] k z e = absurd (cc e)
swapped-there test (y ∷ xs) k z e = swapped_in (test y) k y z xs (swap_key test xs k) (find test xs) (swapped-there test xs k z) e

-- what is there after a `replace`
pub replaced-among : {X : Type 0} (test : X → Bool) (o : Option X) (k x : X) (xs ys : List X) → MatchOption o (IsPermutation (k ∷ xs) ys) (λ _. ys ≡ swap_key test xs k) → Among x ys → Among x xs ⊎ (x ≡ k)
replaced-among test None k x xs ys h m = permuted-among k x xs ys h m
replaced-among test (Some z) k x xs ys h m = swapped-among test xs k x (subst (Among x) h m)

pub replaced-there : {X : Type 0} (test : X → Bool) (o : Option X) (k : X) (xs ys : List X) → o ≡ find test xs → MatchOption o (IsPermutation (k ∷ xs) ys) (λ _. ys ≡ swap_key test xs k) → Among k ys
replaced-there test None k xs ys e h = contains-among ys k (Contains-permutation (k ∷ xs) ys k h (among-contains (k ∷ xs) k (inl refl)))
replaced-there test (Some z) k xs ys e h = subst (Among k) (sym h) (swapped-there test xs k z (sym e))
