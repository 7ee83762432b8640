-- Two lists in turn, lists whose names are distinct, and what is found in them.
use Rattle.std.proofs.Common.{◌≡◌, ℕ, zero, suc, List, [], ◌∷◌, ◌++◌, Bool, true, false, ◌||◌, Some, inl, inr, refl, sym, ap, subst, ◌∙◌}
use Rattle.std.proofs.lemmas.Bool.{or_right, or_left}
use Rattle.std.specs.Prelude.{slice_get}
use Rattle.std.specs.List.{list_any}
use Rattle.wac_types_base.specs.Entries.{AreDistinct, names_of}
use Rattle.wac_types_base.specs.Graph.{Among}
use Rattle.wac_parser_resolve.specs.Holding.{InTurn}

module _ {A B : Type 0} where
  pub turn_map : (R S : A → B → Type 0) → ((a : A) (b : B) → R a b → S a b) → (xs : List A) (ys : List B) → InTurn R xs ys → InTurn S xs ys
  turn_map R S f [] [] t = tt
  turn_map R S f [] (y ∷ ys) t = absurd t
  turn_map R S f (x ∷ xs) [] t = absurd t
  turn_map R S f (x ∷ xs) (y ∷ ys) t = (f x y t.0, turn_map R S f xs ys t.1)

  pub turn_more : (R : A → B → Type 0) (xs : List A) (ys : List B) (x : A) (y : B) → InTurn R xs ys → R x y → InTurn R (xs ++ x ∷ []) (ys ++ y ∷ [])
  turn_more R [] [] x y t r = (r, tt)
  turn_more R [] (b ∷ ys) x y t r = absurd t
  turn_more R (a ∷ xs) [] x y t r = absurd t
  turn_more R (a ∷ xs) (b ∷ ys) x y t r = (t.0, turn_more R xs ys x y t.1 r)

  -- what the second has, the first has
  pub turn_back : (R : A → B → Type 0) (xs : List A) (ys : List B) (y : B) → InTurn R xs ys → Among y ys → (x : A) × Among x xs × R x y
  turn_back R [] [] y t m = absurd m
  turn_back R [] (b ∷ ys) y t m = absurd t
  turn_back R (a ∷ xs) [] y t m = absurd t
  turn_back R (a ∷ xs) (b ∷ ys) y t (inl e) = (a, inl refl, subst (R a) (sym e) t.0)
  turn_back R (a ∷ xs) (b ∷ ys) y t (inr m) = let n = turn_back R xs ys y t.1 m in (n.0, inr n.1, n.2)

  -- what the first has, the second has
  pub turn_on : (R : A → B → Type 0) (xs : List A) (ys : List B) (x : A) → InTurn R xs ys → Among x xs → (y : B) × Among y ys × R x y
  turn_on R [] [] x t m = absurd m
  turn_on R [] (b ∷ ys) x t m = absurd t
  turn_on R (a ∷ xs) [] x t m = absurd t
  turn_on R (a ∷ xs) (b ∷ ys) x t (inl e) = (b, inl refl, subst (λ (z : A). R z b) (sym e) t.0)
  turn_on R (a ∷ xs) (b ∷ ys) x t (inr m) = let n = turn_on R xs ys x t.1 m in (n.0, inr n.1, n.2)

pub none_by : (b c : Bool) → (b ≡ true → ⊥) → c ≡ false → (b || c) ≡ false
none_by true c h e = absurd (h refl)
none_by false c h e = e

module _ {A : Type 0} where
  pub slice_among : (xs : List A) (i : ℕ) (x : A) → slice_get xs i ≡ Some x → Among x xs
  slice_among [] i x e = absurd (cc e)
  slice_among (y ∷ xs) zero x e = inl (cc e)
  slice_among (y ∷ xs) (suc i) x e = inr (slice_among xs i x e)

  -- what is distinct stands in one place
  pub one_place : (xs : List A) (i j : ℕ) (x : A) → AreDistinct xs → slice_get xs i ≡ Some x → slice_get xs j ≡ Some x → i ≡ j
  one_place [] i j x d e f = absurd (cc e)
  one_place (y ∷ xs) zero zero x d e f = refl
  one_place (y ∷ xs) zero (suc j) x d e f = let same : y ≡ x = cc e in absurd (d.0 (subst (λ (z : A). Among z xs) (sym same) (slice_among xs j x f)))
  one_place (y ∷ xs) (suc i) zero x d e f = let same : y ≡ x = cc f in absurd (d.0 (subst (λ (z : A). Among z xs) (sym same) (slice_among xs i x e)))
  one_place (y ∷ xs) (suc i) (suc j) x d e f = ap suc (one_place xs i j x d.1 e f)

  other_last : (y : A) (xs : List A) (x : A) → (Among y xs → ⊥) → (y ≡ x → ⊥) → Among y (xs ++ x ∷ []) → ⊥
  other_last y [] x h n (inl e) = n e
  other_last y [] x h n (inr m) = absurd m
  other_last y (z ∷ xs) x h n (inl e) = h (inl e)
  other_last y (z ∷ xs) x h n (inr m) = other_last y xs x (λ k. h (inr k)) n m

  pub distinct_more : (xs : List A) (x : A) → AreDistinct xs → (Among x xs → ⊥) → AreDistinct (xs ++ x ∷ [])
  distinct_more [] x d h = ((λ m. absurd m), tt)
  distinct_more (y ∷ xs) x d h = (other_last y xs x d.0 (λ e. h (inl (sym e))), distinct_more xs x d.1 (λ m. h (inr m)))

  pub any_among : (p : A → Bool) (xs : List A) (x : A) → Among x xs → p x ≡ true → list_any p xs ≡ true
  any_among p [] x m e = absurd m
  any_among p (y ∷ xs) x (inl s) e = or_left (p y) (list_any p xs) (ap p (sym s) ∙ e)
  any_among p (y ∷ xs) x (inr m) e = or_right (p y) (list_any p xs) (any_among p xs x m e)

  pub any_none : (p : A → Bool) (xs : List A) → ((x : A) → Among x xs → p x ≡ true → ⊥) → list_any p xs ≡ false
  any_none p [] h = refl
  any_none p (y ∷ xs) h = none_by (p y) (list_any p xs) (λ e. h y (inl refl) e) (any_none p xs (λ x m. h x (inr m)))

pub names_more : {N T : Type 0} (xs : List (N × T)) (x : N × T) → names_of (xs ++ x ∷ []) ≡ names_of xs ++ x.0 ∷ []
names_more [] x = refl
names_more (y ∷ xs) x = ap (λ ns. y.0 ∷ ns) (names_more xs x)

module _ {A B : Type 0} where
  -- the last of both lists
  pub turn_last : (R : A → B → Type 0) (xs : List A) (ys : List B) (x : A) (y : B) → InTurn R (xs ++ x ∷ []) (ys ++ y ∷ []) → InTurn R xs ys × R x y
  turn_last R [] [] x y t = (tt, t.0)
  turn_last R [] (b ∷ []) x y t = absurd t.1
  turn_last R [] (b ∷ c ∷ ys) x y t = absurd t.1
  turn_last R (a ∷ []) [] x y t = absurd t.1
  turn_last R (a ∷ c ∷ xs) [] x y t = absurd t.1
  turn_last R (a ∷ xs) (b ∷ ys) x y t = let n = turn_last R xs ys x y t.1 in ((t.0, n.0), n.1)

  -- what holds of those in the second list
  pub turn_within : (R S : A → B → Type 0) (xs : List A) (ys : List B) → ((a : A) (b : B) → Among b ys → R a b → S a b) → InTurn R xs ys → InTurn S xs ys
  turn_within R S [] [] f t = tt
  turn_within R S [] (y ∷ ys) f t = absurd t
  turn_within R S (x ∷ xs) [] f t = absurd t
  turn_within R S (x ∷ xs) (y ∷ ys) f t = (f x y (inl refl) t.0, turn_within R S xs ys (λ a b m r. f a b (inr m) r) t.1)
