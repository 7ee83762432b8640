-- Looking through a list from its front.
use Rattle.std.proofs.Common.{◌≡◌, ℕ, zero, suc, ◌+◌, ◌<◌, ◌≤◌, List, [], ◌∷◌, ◌++◌, length, take, get_or, refl, sym, ap, ◌∙◌, subst, arith, inl, inr, ◌⊎◌, true, false}
use Rattle.std.proofs.lemmas.List.{take_more, take_all}
use Rattle.wac_types_base.specs.Graph.{Among}

pub never : false ≡ true → ⊥
never e = cc

module _ {X : Type 0} (P : X → Type 0) where
  -- P holds of one of them
  abbrev pub Some_of : List X → Type 0
  Some_of xs = (x : X) × Among x xs × P x

  pub among_at : (xs : List X) (i : ℕ) (d : X) → i < length xs → Among (get_or xs i d) xs
  among_at [] i d h = absurd (omega (arith, h))
  among_at (x ∷ xs) zero d h = inl refl
  among_at (x ∷ xs) (suc i) d h = inr (among_at xs i d (omega (arith, h)))

  pub found_here : (xs : List X) (i : ℕ) (x : X) → i < length xs → x ≡ get_or xs i x → P x → Some_of xs
  found_here xs i x h e p = (get_or xs i x, among_at xs i x h, subst P e p)

  pub stands_here : (xs : List X) (i : ℕ) (x : X) → i < length xs → x ≡ get_or xs i x → Among x xs
  stands_here xs i x h e = subst (λ (y : X). Among y xs) (sym e) (among_at xs i x h)

  last_of : (xs : List X) (x y : X) → Among y (xs ++ x ∷ []) → Among y xs ⊎ (y ≡ x)
  last_of [] x y (inl e) = inr e
  last_of [] x y (inr e) = absurd e
  last_of (z ∷ xs) x y (inl e) = inl (inl e)
  last_of (z ∷ xs) x y (inr a) = elim (last_of xs x y a) [ inl b ↦ inl (inr b) | inr e ↦ inr e ]

  pub none_more : (xs : List X) (i : ℕ) (x : X) → i < length xs → x ≡ get_or xs i x → (Some_of (take i xs) → ⊥) → (P x → ⊥) → Some_of (take (i + 1) xs) → ⊥
  none_more xs i x h e before here there =
      let a = subst (λ (t : List X). Among there.0 t) (take_more xs i x h ∙ ap (λ (y : X). take i xs ++ y ∷ []) (sym e)) there.1 in
      elim (last_of (take i xs) x there.0 a) [ inl b ↦ before (there.0, b, there.2) | inr q ↦ here (subst P q there.2) ]

  pub none_of_all : (xs : List X) (i : ℕ) → length xs ≤ i → (Some_of (take i xs) → ⊥) → Some_of xs → ⊥
  none_of_all xs i h before there = before (there.0, subst (λ (t : List X). Among there.0 t) (sym (take_all i xs h)) there.1, there.2)
