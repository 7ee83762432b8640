-- The first of a list that passes a test.
use Rattle.std.proofs.Common.{◌≡◌, ◌||◌, ◌+◌, ℕ, Bool, false, List, [], ◌∷◌, take, Some, ap, ◌∙◌, slice_get}
use Rattle.std.specs.List.{list_any}
use Rattle.std.proofs.lemmas.List.Folds.{list_any-append}
use Rattle.wac_types_base.proofs.Looked.{take-one_more}
use Rattle.wac_types_parts.proofs.Lists.{take_zero}

pub none_taken : {X : Type 0} (p : X → Bool) (xs : List X) → list_any p (take 0 xs) ≡ false
none_taken p xs = ap (list_any p) (take_zero xs)

pub none_next : {X : Type 0} (p : X → Bool) (xs : List X) (i : ℕ) (x : X) → slice_get xs i ≡ Some x → list_any p (take i xs) ≡ false → p x ≡ false → list_any p (take (i + 1) xs) ≡ false
none_next p xs i x at before not_this =
    ap (list_any p) (take-one_more xs i x at) ∙ list_any-append p (take i xs) (x ∷ []) ∙ ap (λ b. b || (p x || false)) before ∙ ap (λ b. b || false) not_this
