-- Lists without repetition, and none of a list.
use Rattle.std.proofs.Common.{◌≡◌, List, [], ◌∷◌, ◌++◌, take, refl, subst, inl, inr}
use Rattle.wac_types_base.specs.Graph.{Among}
use Rattle.wac_types_base.specs.Entries.{AreDistinct}
use Rattle.wac_types_base.proofs.Adding.{Among-right}
use Rattle.wac_types_base.proofs.Lists.{among_split}

pub take_zero : {X : Type 0} (xs : List X) → take 0 xs ≡ []
take_zero [] = refl
take_zero (x ∷ xs) = refl

pub distinct-append : {X : Type 0} (xs ys : List X) → AreDistinct xs → AreDistinct ys → ((x : X) → Among x xs → Among x ys → ⊥) → AreDistinct (xs ++ ys)
distinct-append [] ys d e h = e
distinct-append (x ∷ xs) ys d e h = (
  λ m. elim (among_split x xs ys m) [ inl a ↦ d.0 a | inr b ↦ h x (inl refl) b ],
  distinct-append xs ys d.1 e (λ y a b. h y (inr a) b),
)

pub distinct-apart : {X : Type 0} (x : X) (xs ys : List X) → AreDistinct (xs ++ ys) → Among x xs → Among x ys → ⊥
distinct-apart x [] ys d m n = m
distinct-apart x (y ∷ xs) ys d (inl e) n = d.0 (Among-right y xs ys (subst (λ (z : _). Among z ys) e n))
distinct-apart x (y ∷ xs) ys d (inr m) n = distinct-apart x xs ys d.1 m n
