-- Lists that go side by side.
use Rattle.std.specs.List.{AllZip}
use Rattle.std.proofs.Common.{◌≡◌, ℕ, zero, suc, List, [], ◌∷◌, ◌++◌, Some, slice_get, inl, inr, refl, sym, subst}
use Rattle.std.proofs.lemmas.Option.{none-some, same_Some}
use Rattle.wac_types_base.specs.Graph.{Among}

module _ {A B : Type 0} (R : A → B → Type 0) where
  pub zip_back : (xs : List A) (ys : List B) (y : B) → AllZip R xs ys → Among y ys → (x : A) × Among x xs × R x y
  zip_back [] [] y h m = absurd m
  zip_back [] (z ∷ ys) y h m = absurd h
  zip_back (x ∷ xs) [] y h m = absurd h
  zip_back (x ∷ xs) (z ∷ ys) y h (inl e) = (x, inl refl, subst (R x) (sym e) h.0)
  zip_back (x ∷ xs) (z ∷ ys) y h (inr m) = let r = zip_back xs ys y h.1 m in (r.0, inr r.1, r.2)

  pub zip_at : (xs : List A) (ys : List B) (i : ℕ) (x : A) → AllZip R xs ys → slice_get xs i ≡ Some x → (y : B) × (slice_get ys i ≡ Some y) × R x y
  zip_at [] ys i x h e = absurd (none-some _ e)
  zip_at (z ∷ xs) [] i x h e = absurd h
  zip_at (z ∷ xs) (y ∷ ys) zero x h e = (y, refl, subst (λ v. R v y) (same_Some _ _ e) h.0)
  zip_at (z ∷ xs) (y ∷ ys) (suc i) x h e = zip_at xs ys i x h.1 e

  pub zip_last : (xs : List A) (ys : List B) (x : A) (y : B) → AllZip R xs ys → R x y → AllZip R (xs ++ x ∷ []) (ys ++ y ∷ [])
  zip_last [] [] x y h r = (r, tt)
  zip_last [] (z ∷ ys) x y h r = absurd h
  zip_last (z ∷ xs) [] x y h r = absurd h
  zip_last (z ∷ xs) (w ∷ ys) x y h r = (h.0, zip_last xs ys x y h.1 r)
