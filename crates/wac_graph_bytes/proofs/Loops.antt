-- What a loop over entries shows.
use Rattle.std.proofs.Common.{◌≡◌, ℕ, ◌<◌, Bool, true, false, List, [], ◌∷◌, length, get_or, map, refl, ◌∙◌}
use Rattle.std.specs.Prelude.{◌&&◌}
use Rattle.std.specs.List.{list_all}
use Rattle.std.proofs.lemmas.List.Folds.{list_all-map, list_all_at}

-- an item that doesn't fit
pub unfit_item : {X Y : Type 0} (p : X → Bool) (f : Y → X) (ys : List Y) (i : ℕ) (d : Y) → i < length ys → p (f (get_or ys i d)) ≡ false → list_all p (map f ys) ≡ false
unfit_item p f ys i d lt e = list_all-map p f ys ∙ list_all_at (λ y. p (f y)) ys i d lt e

-- a list of one
pub fits_one : {X : Type 0} (p : X → Bool) (x : X) → list_all p (x ∷ []) ≡ p x
fits_one p x = and_true (p x)
  where
    and_true : (b : Bool) → (b && true) ≡ b
    and_true true = refl
    and_true false = refl
