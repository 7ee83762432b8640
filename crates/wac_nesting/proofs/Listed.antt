-- Lists that grow at their end.
use Rattle.std.specs.Prelude.{slice_get}
use Rattle.std.proofs.Common.{◌≡◌, ℕ, zero, suc, List, [], ◌∷◌, ◌++◌, Option, Some, None, ◌⊎◌, inl, inr, refl, sym, ap}
use Rattle.wac_types_base.specs.Graph.{Among}

module _ {A : Type 0} where
  pub among_left : (x : A) (xs ys : List A) → Among x xs → Among x (xs ++ ys)
  among_left x [] ys m = absurd m
  among_left x (y ∷ xs) ys (inl e) = inl e
  among_left x (y ∷ xs) ys (inr m) = inr (among_left x xs ys m)

  pub among_last : (x : A) (xs : List A) → Among x (xs ++ x ∷ [])
  among_last x [] = inl refl
  among_last x (y ∷ xs) = inr (among_last x xs)

  pub among_cases : (x y : A) (xs : List A) → Among x (xs ++ y ∷ []) → Among x xs ⊎ (x ≡ y)
  among_cases x y [] (inl e) = inr e
  among_cases x y [] (inr m) = absurd m
  among_cases x y (z ∷ xs) (inl e) = inl (inl e)
  among_cases x y (z ∷ xs) (inr m) = elim (among_cases x y xs m) [ inl n ↦ inl (inr n) | inr e ↦ inr e ]

  -- what stands somewhere stands at a number
  pub number_of : (x : A) (xs : List A) → Among x xs → (i : ℕ) × (slice_get xs i ≡ Some x)
  number_of x [] m = absurd m
  number_of x (y ∷ xs) (inl e) = (zero, ap Some (sym e))
  number_of x (y ∷ xs) (inr m) = let r = number_of x xs m in (suc r.0, r.1)

  -- what holds at each number holds with one more at the end
  pub one_more : (P : Option A → Type 0) (xs : List A) (x : A) → ((i : ℕ) → P (slice_get xs i)) → P (Some x) → (i : ℕ) → P (slice_get (xs ++ x ∷ []) i)
  one_more P [] x h last zero = last
  one_more P [] x h last (suc i) = h zero
  one_more P (y ∷ xs) x h last zero = h zero
  one_more P (y ∷ xs) x h last (suc i) = one_more P xs x (λ j. h (suc j)) last i
