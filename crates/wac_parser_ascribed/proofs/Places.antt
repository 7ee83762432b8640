-- Places in lists of distinct numbers, and what stands at them in other lists.
use Rattle.std.specs.Prelude.{slice_get, ◌==◌, cond}
use Rattle.std.proofs.lemmas.Bool.{false_from_ne_true}
use Rattle.std.proofs.Common.{◌≡◌, ℕ, zero, suc, List, [], ◌∷◌, map, Bool, true, false, Some, None, refl, sym, ap, subst, ◌∙◌, inl, inr}
use Rattle.wac_types_base.specs.Entries.{AreDistinct, names_of}
use Rattle.wac_types_base.specs.Graph.{Among}
use Rattle.wac_types_base.proofs.Replacing.{same_number, number_same}
use Rattle.wac_parser_resolve.specs.Holding.{InTurn}
use Rattle.wac_parser_resolve.proofs.Turns.{slice_among, turn_within}
use Rattle.wac_parser_ascribed.specs.Tied.{place_of, partner}

pub other_number : (j k : ℕ) → (j ≡ k → ⊥) → (j == k) ≡ false
other_number j k h = false_from_ne_true (j == k) (λ e. h (same_number j k e))

-- ---- places

pub place_is : (js : List ℕ) (i k : ℕ) → AreDistinct js → slice_get js i ≡ Some k → place_of js k ≡ i
place_is [] i k d e = absurd (cc e)
place_is (j ∷ js) zero k d e = let same : j ≡ k = cc e in ap (λ b. cond b zero (suc (place_of js k))) (number_same j k same)
place_is (j ∷ js) (suc i) k d e =
    let other : j ≡ k → ⊥ = λ same. d.0 (subst (λ n. Among n js) (sym same) (slice_among js i k e)) in
    ap (λ b. cond b zero (suc (place_of js k))) (other_number j k other) ∙ ap suc (place_is js i k d.1 e)

pub at_place : (js : List ℕ) (k : ℕ) → Among k js → slice_get js (place_of js k) ≡ Some k
at_place [] k m = absurd m
at_place (j ∷ js) k m = by (j == k) refl m (at_place js k)
  where
    by : (b : Bool) → (j == k) ≡ b → Among k (j ∷ js) → (Among k js → slice_get js (place_of js k) ≡ Some k) → slice_get (j ∷ js) (cond b zero (suc (place_of js k))) ≡ Some k
    by true e m rest = ap Some (same_number j k e)
    by false e (inl same) rest = absurd (cc (sym e ∙ number_same j k (sym same)))
    by false e (inr m) rest = rest m

-- ---- what stands partner

pub beside_none : {A : Type 0} (js : List ℕ) (xs : List A) (k : ℕ) → (Among k js → ⊥) → partner js xs k ≡ None
beside_none [] xs k h = refl
beside_none (j ∷ js) [] k h = refl
beside_none (j ∷ js) (x ∷ xs) k h = ap (λ b. cond b (Some x) (partner js xs k)) (other_number j k (λ e. h (inl (sym e)))) ∙ beside_none js xs k (λ m. h (inr m))

-- each stands partner its own
pub turn_beside : {A : Type 0} (R : A → ℕ → Type 0) (xs : List A) (js : List ℕ) → AreDistinct js → InTurn R xs js → InTurn (λ x k. R x k × (partner js xs k ≡ Some x)) xs js
turn_beside R [] [] d t = tt
turn_beside R [] (j ∷ js) d t = absurd t
turn_beside R (x ∷ xs) [] d t = absurd t
turn_beside {A} R (x ∷ xs) (j ∷ js) d t = (
  (t.0, ap (λ b. cond b (Some x) (partner js xs j)) (number_same j j refl)),
  turn_within (λ y k. R y k × (partner js xs k ≡ Some y)) (λ y k. R y k × (partner (j ∷ js) (x ∷ xs) k ≡ Some y)) xs js
      (λ y k m r. (r.0, ap (λ b. cond b (Some x) (partner js xs k)) (other_number j k (λ e. d.0 (subst (λ n. Among n js) (sym e) m))) ∙ r.1))
      (turn_beside R xs js d.1 t.1),
)

-- those of a list under the numbers of another
pub turn_named : {A T : Type 0} (R : A → ℕ × T → Type 0) (xs : List A) (es : List (ℕ × T)) → InTurn R xs es → InTurn (λ x k. (e : ℕ × T) × (e.0 ≡ k) × R x e) xs (names_of es)
turn_named R [] [] t = tt
turn_named R [] (e ∷ es) t = absurd t
turn_named R (x ∷ xs) [] t = absurd t
turn_named R (x ∷ xs) (e ∷ es) t = ((e, refl, t.0), turn_named R xs es t.1)

-- ---- two lists in turn, and what is made of them

pub turn_mapped : {A B C : Type 0} (f : B → C) (h : A → C) (xs : List A) (ys : List B) → InTurn (λ x y. f y ≡ h x) xs ys → map f ys ≡ map h xs
turn_mapped f h [] [] t = refl
turn_mapped f h [] (y ∷ ys) t = absurd t
turn_mapped f h (x ∷ xs) [] t = absurd t
turn_mapped f h (x ∷ xs) (y ∷ ys) t = let rest = turn_mapped f h xs ys t.1 in λ i. t.0 i ∷ rest i
