-- One more entry of a loop over a map.
use Rattle.std.proofs.Common.{◌≡◌, ℕ, ◌+◌, ◌<◌, List, [], ◌∷◌, ◌++◌, length, take, Some, Bool, true, false, filter, if◌then◌else◌, refl, sym, ap, subst, ◌∙◌, slice_get, get_or, inl, inr, ◌≤◌, arith}
use Rattle.std.proofs.lemmas.List.{append-nil}
use Rattle.std.specs.Prelude.{String, string_bytes}
use Rattle.wac_types_base.specs.Entries.{Name, AreDistinct, IsNew, names_of, texts_of, values_of}
use Rattle.wac_types_base.specs.Graph.{Among}
use Rattle.wac_types_base.proofs.Again.{name_before}
use Rattle.wac_types_base.proofs.Looked.{among-get, entry-place, take-one_more}
use Rattle.wac_types_base.proofs.Loops.{map-get, map-take, take-all}

-- the entry at a place of a loop over names and values
pub place : {Z T : Type 0} (es : List (Name × T)) (ts : List (String Z)) (vs : List T) (i : ℕ) (s : String Z) (v : T) → texts_of ts ≡ names_of es → vs ≡ values_of es → i < length es → s ≡ get_or ts i s → v ≡ get_or vs i v → slice_get es i ≡ Some (string_bytes s, v)
place es ts vs i s v names values within n x =
    entry-place es ts vs i s v names values within
    ∙ ap (λ t. Some (string_bytes t, get_or vs i v)) (sym n) ∙ ap (λ w. Some (string_bytes s, w)) (sym x)

-- its name is not among those before it
pub place_new : {T U : Type 0} (es : List (Name × T)) (i : ℕ) (n : Name) (v : T) (made : List (Name × U)) → AreDistinct (names_of es) → slice_get es i ≡ Some (n, v) → names_of made ≡ names_of (take i es) → IsNew n made
place_new es i n v made distinct at before m =
    name_before es i n v at (names_of made) distinct (before ∙ map-take (λ e. e.0) es i) m

pub filter_last : {X : Type 0} (p : X → Bool) (xs : List X) (x : X) → filter p (xs ++ x ∷ []) ≡ filter p xs ++ (if p x then x ∷ [] else [])
filter_last p [] x = by_test (p x)
  where
    by_test : (b : Bool) → (if b then x ∷ [] else []) ≡ (if b then x ∷ [] else [])
    by_test b = refl
filter_last p (y ∷ xs) x = by_test (p y) (filter_last p xs x)
  where
    by_test : (b : Bool) → filter p (xs ++ x ∷ []) ≡ filter p xs ++ (if p x then x ∷ [] else []) → (if b then y ∷ filter p (xs ++ x ∷ []) else filter p (xs ++ x ∷ [])) ≡ (if b then y ∷ filter p xs else filter p xs) ++ (if p x then x ∷ [] else [])
    by_test true e = ap (λ l. y ∷ l) e
    by_test false e = e

pub filter_more : {X : Type 0} (p : X → Bool) (xs : List X) (i : ℕ) (x : X) → slice_get xs i ≡ Some x → p x ≡ true → filter p (take (i + 1) xs) ≡ filter p (take i xs) ++ x ∷ []
filter_more p xs i x at is = ap (filter p) (take-one_more xs i x at) ∙ filter_last p (take i xs) x ∙ ap (λ b. filter p (take i xs) ++ (if b then x ∷ [] else [])) is

pub filter_same : {X : Type 0} (p : X → Bool) (xs : List X) (i : ℕ) (x : X) → slice_get xs i ≡ Some x → p x ≡ false → filter p (take (i + 1) xs) ≡ filter p (take i xs)
filter_same p xs i x at is = ap (filter p) (take-one_more xs i x at) ∙ filter_last p (take i xs) x ∙ ap (λ b. filter p (take i xs) ++ (if b then x ∷ [] else [])) is ∙ append-nil (filter p (take i xs))

-- a name among the filtered is one of the unfiltered
pub filter_names : {T : Type 0} (p : Name × T → Bool) (es : List (Name × T)) (n : Name) → Among n (names_of (filter p es)) → Among n (names_of es)
filter_names p [] n m = absurd m
filter_names p (e ∷ es) n m = by_test (p e) (filter_names p es n) m
  where
    by_test : (b : Bool) → (Among n (names_of (filter p es)) → Among n (names_of es)) → Among n (names_of (if b then e ∷ filter p es else filter p es)) → Among n (names_of (e ∷ es))
    by_test true h (inl i) = inl i
    by_test true h (inr k) = inr (h k)
    by_test false h k = inr (h k)

-- ---- what is filtered

pub filter_next : {T : Type 0} (p : Name × T → Bool) (made es : List (Name × T)) (i : ℕ) (m : Name) (w : T) → made ≡ filter p (take i es) → slice_get es i ≡ Some (m, w) → made ++ filter p ((m, w) ∷ []) ≡ filter p (take (i + 1) es)
filter_next p made es i m w h at = ap (λ l. l ++ filter p ((m, w) ∷ [])) h ∙ sym (filter_last p (take i es) (m, w)) ∙ ap (filter p) (sym (take-one_more es i (m, w) at))

pub filter_end : {T : Type 0} (p : Name × T → Bool) (made es : List (Name × T)) (i n : ℕ) → made ≡ filter p (take i es) → n ≤ i → n ≡ length es → made ≡ filter p es
filter_end p made es i n h le e = let whole : length es ≤ i = omega (arith, le, e) in h ∙ ap (filter p) (take-all es i whole)

pub filter_new : {T : Type 0} (p : Name × T → Bool) (made es : List (Name × T)) (i : ℕ) (m : Name) (w : T) → AreDistinct (names_of es) → made ≡ filter p (take i es) → slice_get es i ≡ Some (m, w) → IsNew m made
filter_new p made es i m w d h at n = place_new es i m w (take i es) d at refl (filter_names p (take i es) m (subst (λ l. Among m (names_of l)) h n))

-- ---- behind others

pub append_assoc : {X : Type 0} (as_ bs cs : List X) → (as_ ++ bs) ++ cs ≡ as_ ++ (bs ++ cs)
append_assoc [] bs cs = refl
append_assoc (a ∷ as_) bs cs = ap (λ l. a ∷ l) (append_assoc as_ bs cs)

pub new_behind : {T : Type 0} (xs es : List (Name × T)) (i : ℕ) (n : Name) (v : T) → ((m : Name) → Among m (names_of xs) → Among m (names_of es) → ⊥) → slice_get es i ≡ Some (n, v) → IsNew n (take i es) → IsNew n (xs ++ take i es)
new_behind [] es i n v apart at new m = new m
new_behind (x ∷ xs) es i n v apart at new (inl e) = apart n (inl e) (among-get (names_of es) i n (map-get (λ e. e.0) es i (n, v) at))
new_behind (x ∷ xs) es i n v apart at new (inr m) = new_behind xs es i n v (λ k a b. apart k (inr a) b) at new m
