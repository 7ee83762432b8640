-- Lists that grow at their end.
use Rattle.std.specs.Prelude.{slice_get, ◌==◌, if◌then◌else◌}
use Rattle.std.proofs.lemmas.Option.{none-some, same_Some}
use Rattle.std.specs.Cmp.Lexicographic.{pointwise}
use Rattle.std.proofs.Common.{◌≡◌, ℕ, zero, suc, ◌<◌, ◌≤◌, List, [], ◌∷◌, ◌++◌, Bool, true, false, Option, Some, None, ◌⊎◌, inl, inr, length, refl, sym, ap, subst, ◌∙◌, arith}
use Rattle.wac_types_base.specs.Entries.{Name, value_at}
use Rattle.wac_types_base.specs.Graph.{Among}
use Rattle.std.specs.Option.{option_or}
use Rattle.wac_types_base.proofs.Lists.{value_both}

module _ {A : Type 0} where
  pub length_more : (xs : List A) (x : A) → length (xs ++ x ∷ []) ≡ suc (length xs)
  length_more [] x = refl
  length_more (y ∷ xs) x = ap suc (length_more xs x)

  -- what stands at a number in the longer list
  pub slice_more : (xs : List A) (x y : A) (i : ℕ) → slice_get (xs ++ x ∷ []) i ≡ Some y → (slice_get xs i ≡ Some y) ⊎ ((i ≡ length xs) × (x ≡ y))
  slice_more [] x y zero e = inr (refl, same_Some _ _ e)
  slice_more [] x y (suc i) e = absurd (none-some _ e)
  slice_more (z ∷ xs) x y zero e = inl e
  slice_more (z ∷ xs) x y (suc i) e = elim (slice_more xs x y i e) [ inl h ↦ inl h | inr h ↦ inr (ap suc h.0, h.1) ]

  -- what stood stands there, and the last stands behind it
  pub slice_kept : (xs : List A) (x y : A) (i : ℕ) → slice_get xs i ≡ Some y → slice_get (xs ++ x ∷ []) i ≡ Some y
  slice_kept [] x y i e = absurd (none-some _ e)
  slice_kept (z ∷ xs) x y zero e = e
  slice_kept (z ∷ xs) x y (suc i) e = slice_kept xs x y i e

  pub slice_last : (xs : List A) (x : A) → slice_get (xs ++ x ∷ []) (length xs) ≡ Some x
  slice_last [] x = refl
  slice_last (y ∷ xs) x = slice_last xs x

  pub among_more : (y : A) (xs : List A) (x : A) → Among y xs → Among y (xs ++ x ∷ [])
  among_more y [] x m = absurd m
  among_more y (z ∷ xs) x (inl e) = inl e
  among_more y (z ∷ xs) x (inr m) = inr (among_more y xs x m)

  pub among_last : (xs : List A) (x : A) → Among x (xs ++ x ∷ [])
  among_last [] x = inl refl
  among_last (y ∷ xs) x = inr (among_last xs x)

  -- what holds of each holds with one more
  pub each_more : (P : A → Type 0) (xs : List A) (x : A) → ((y : A) → Among y xs → P y) → P x → (y : A) → Among y (xs ++ x ∷ []) → P y
  each_more P [] x h p y (inl e) = subst P (sym e) p
  each_more P [] x h p y (inr m) = absurd m
  each_more P (z ∷ xs) x h p y (inl e) = h y (inl e)
  each_more P (z ∷ xs) x h p y (inr m) = each_more P xs x (λ w n. h w (inr n)) p y m

  pub slice_below : (xs : List A) (i : ℕ) (x : A) → slice_get xs i ≡ Some x → i < length xs
  slice_below [] i x e = absurd (none-some _ e)
  slice_below (y ∷ xs) zero x e = omega arith
  slice_below (y ∷ xs) (suc i) x e = let h = slice_below xs i x e in omega (arith, h)

  pub slice_there : (xs : List A) (i : ℕ) → i < length xs → (x : A) × (slice_get xs i ≡ Some x)
  slice_there [] i h = absurd (omega (arith, h))
  slice_there (y ∷ xs) zero h = (y, refl)
  slice_there (y ∷ xs) (suc i) h = slice_there xs i (omega (arith, h))

-- what holds of each value under its name holds with one more
pub value_more : {V : Type 0} (P : V → Type 0) (xs : List (Name × V)) (m : Name) (v : V) → ((n : Name) (w : V) → value_at xs n ≡ Some w → P w) → P v → (n : Name) (w : V) → value_at (xs ++ (m, v) ∷ []) n ≡ Some w → P w
value_more P xs m v h p n w e = go (value_at xs n) refl (sym (value_both xs ((m, v) ∷ []) n) ∙ e)
  where
    last : (b : Bool) → (if b then Some v else None) ≡ Some w → P w
    last true d = subst P (same_Some _ _ d) p
    last false d = absurd (none-some _ d)

    go : (o : Option _) → value_at xs n ≡ o → option_or o (value_at ((m, v) ∷ []) n) ≡ Some w → P w
    go (Some u) q d = subst P (same_Some _ _ d) (h n u q)
    go None q d = last (pointwise ◌==◌ n m) d
