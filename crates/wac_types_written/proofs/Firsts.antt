-- Of several under one name the first.
use Rattle.std.proofs.Common.{◌≡◌, List, [], ◌∷◌, ◌++◌, Some, None, Bool, true, false, is_some, if◌then◌else◌, ◌==◌, refl, sym, ap, subst, ◌∙◌, inl, inr}
use Rattle.std.proofs.lemmas.Slice.Eq.{bytes_eq-Decides}
use Rattle.std.specs.Cmp.Lexicographic.{pointwise}
use Rattle.wac_types_base.specs.Entries.{Name, value_at}
use Rattle.wac_types_base.specs.Graph.{Among}
use Rattle.wac_types_base.specs.Stated.{Stated}
use Rattle.wac_types_written.specs.Written.{with_first, with_firsts}

abbrev pub IsFound : List (Name × Stated) → Name → Type 0
IsFound seen n = is_some (value_at seen n) ≡ true

pub firsts_append : (s xs ys : List (Name × Stated)) → with_firsts s (xs ++ ys) ≡ with_firsts (with_firsts s xs) ys
firsts_append s [] ys = refl
firsts_append s (x ∷ xs) ys = firsts_append (with_first s x) xs ys

more_found : (s t : List (Name × Stated)) (n : Name) → IsFound s n → IsFound (s ++ t) n
more_found [] t n h = absurd (cc h)
more_found (e ∷ s) t n h = by_test (pointwise ◌==◌ n e.0) h (more_found s t n)
  where
    by_test : (b : Bool) → is_some (if b then Some e.1 else value_at s n) ≡ true → (IsFound s n → IsFound (s ++ t) n) → is_some (if b then Some e.1 else value_at (s ++ t) n) ≡ true
    by_test true h k = refl
    by_test false h k = k h

last_found : (s : List (Name × Stated)) (x : Name × Stated) → IsFound (s ++ x ∷ []) x.0
last_found [] x = ap (λ b. is_some (if b then Some x.1 else None)) ((bytes_eq-Decides x.0 x.0).1 refl)
last_found (e ∷ s) x = by_test (pointwise ◌==◌ x.0 e.0) (last_found s x)
  where
    by_test : (b : Bool) → IsFound (s ++ x ∷ []) x.0 → is_some (if b then Some e.1 else value_at (s ++ x ∷ []) x.0) ≡ true
    by_test true h = refl
    by_test false h = h

kept_first : (s : List (Name × Stated)) (x : Name × Stated) (n : Name) → IsFound s n → IsFound (with_first s x) n
kept_first s x n h = by_test (is_some (value_at s x.0))
  where
    by_test : (b : Bool) → IsFound (if b then s else s ++ x ∷ []) n
    by_test true = h
    by_test false = more_found s (x ∷ []) n h

pub kept_firsts : (s xs : List (Name × Stated)) (n : Name) → IsFound s n → IsFound (with_firsts s xs) n
kept_firsts s [] n h = h
kept_firsts s (x ∷ xs) n h = kept_firsts (with_first s x) xs n (kept_first s x n h)

own_first : (s : List (Name × Stated)) (x : Name × Stated) → IsFound (with_first s x) x.0
own_first s x = by_test (is_some (value_at s x.0)) refl
  where
    by_test : (b : Bool) → is_some (value_at s x.0) ≡ b → IsFound (if b then s else s ++ x ∷ []) x.0
    by_test true h = h
    by_test false h = last_found s x

-- what was added is found
pub firsts_found : (s xs : List (Name × Stated)) (x : Name × Stated) → Among x xs → IsFound (with_firsts s xs) x.0
firsts_found s [] x m = absurd m
firsts_found s (y ∷ xs) x (inl e) = subst (λ z. IsFound (with_firsts (with_first s y) xs) z.0) (sym e) (kept_firsts (with_first s y) xs y.0 (own_first s y))
firsts_found s (y ∷ xs) x (inr m) = firsts_found (with_first s y) xs x m

-- where all are found nothing is added
pub firsts_same : (s xs : List (Name × Stated)) → ((x : Name × Stated) → Among x xs → IsFound s x.0) → with_firsts s xs ≡ s
firsts_same s [] h = refl
firsts_same s (x ∷ xs) h =
    let e : with_first s x ≡ s = ap (λ b. if b then s else s ++ x ∷ []) (h x (inl refl)) in
    ap (λ t. with_firsts t xs) e ∙ firsts_same s xs (λ y m. h y (inr m))
