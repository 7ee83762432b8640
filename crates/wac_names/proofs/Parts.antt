-- Both parts of a conjunction, the ends of a list, and what is there.
use Rattle.std.proofs.Common.{◌≡◌, ℕ, List, ◌∷◌, Option, Some}

pub cons_head : (a b : ℕ) (x y : List ℕ) → a ∷ x ≡ b ∷ y → a ≡ b
cons_head a b x y e = cc

pub cons_tail : (a b : ℕ) (x y : List ℕ) → a ∷ x ≡ b ∷ y → x ≡ y
cons_tail a b x y e = cc

abbrev pub some_of : {A : Type 0} → A → Option A
some_of x = Some x
