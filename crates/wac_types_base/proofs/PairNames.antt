-- Entries with two names each, by their bytes.
use Rattle.std.proofs.Common.{◌≡◌, ℕ, zero, suc, ◌<◌, List, [], ◌∷◌, ◌++◌, length, Some, ◌==◌, ◌&&◌, Bool, true, false, refl, sym, ap, subst, ◌∙◌, slice_get, get_or, inl, inr, arith}
use Rattle.std.proofs.lemmas.Slice.Eq.{bytes_eq-Decides}
use Rattle.std.specs.List.{IsDistinct, AllByRecursion}
use Rattle.std.specs.Prelude.{String, string_bytes}
use Rattle.std.specs.Map.{keys_of, values_of as map_values}
use Rattle.indexmap.specs.IndexMap.{insert_entry}
use Rattle.std.specs.Cmp.Lexicographic.{pointwise}
use Rattle.wac_types_base.specs.Graph.{Among}
use Rattle.wac_types_base.specs.Entries.{imports_in, pairs_of, names_of, values_of, AreDistinct, IsNew}

-- equality of pairs of texts
abbrev pub same_pair : {Y Z : Type 0} → String Y × String Z → String Y × String Z → Bool
same_pair a b = pointwise ◌==◌ (string_bytes a.0) (string_bytes b.0) && pointwise ◌==◌ (string_bytes a.1) (string_bytes b.1)

abbrev bytes_of : {Y Z : Type 0} → String Y × String Z → List ℕ × List ℕ
bytes_of a = (string_bytes a.0, string_bytes a.1)

passes : {Y Z : Type 0} (a b : String Y × String Z) → bytes_of a ≡ bytes_of b → same_pair a b ≡ true
passes a b e = rw ((bytes_eq-Decides (string_bytes a.0) (string_bytes b.0)).1 (ap (λ p. p.0) e), (bytes_eq-Decides (string_bytes a.1) (string_bytes b.1)).1 (ap (λ p. p.1) e)) refl

same_bytes : (m n m' n' : List ℕ) (s t : Bool) → pointwise ◌==◌ m m' ≡ s → pointwise ◌==◌ n n' ≡ t → (s && t) ≡ true → (m ≡ m') × (n ≡ n')
same_bytes m n m' n' true true e f h = ((bytes_eq-Decides m m').0 e, (bytes_eq-Decides n n').0 f)
same_bytes m n m' n' true false e f h = absurd (cc h)
same_bytes m n m' n' false t e f h = absurd (cc h)

differs : {Y Z : Type 0} (a b : String Y × String Z) → (bytes_of a ≡ bytes_of b → ⊥) → same_pair a b ≡ false
differs a b h = by_test (same_pair a b) refl
  where
    by_test : (t : Bool) → same_pair a b ≡ t → t ≡ false
    by_test true e =
        let p = same_bytes (string_bytes a.0) (string_bytes a.1) (string_bytes b.0) (string_bytes b.1) _ _ refl refl e in
        let first : List ℕ → List ℕ × List ℕ = λ x. (x, string_bytes a.1) in
        let second : List ℕ → List ℕ × List ℕ = λ y. (string_bytes b.0, y) in
        absurd (h (ap first p.0 ∙ ap second p.1))
    by_test false e = refl

pub pair-names : {Y Z T : Type 0} (es : List ((String Y × String Z) × T)) → pairs_of (keys_of es) ≡ names_of (imports_in es)
pair-names [] = refl
pair-names (e ∷ es) = ap (λ l. (string_bytes e.0.0, string_bytes e.0.1) ∷ l) (pair-names es)

pub pair-values : {Y Z T : Type 0} (es : List ((String Y × String Z) × T)) → map_values es ≡ values_of (imports_in es)
pair-values [] = refl
pair-values (e ∷ es) = ap (λ l. e.1 ∷ l) (pair-values es)

not-among : {Y Z : Type 0} (k : String Y × String Z) (ks : List (String Y × String Z)) → AllByRecursion (λ y. same_pair k y ≡ false) ks → Among (bytes_of k) (pairs_of ks) → ⊥
not-among k [] h m = m
not-among k (y ∷ ks) h (inl e) = absurd (cc (h.0, passes k y e))
not-among k (y ∷ ks) h (inr m) = not-among k ks h.1 m

pairs-distinct : {Y Z : Type 0} (ks : List (String Y × String Z)) → IsDistinct same_pair ks → AreDistinct (pairs_of ks)
unfolding IsDistinct
pairs-distinct [] h = tt
pairs-distinct (k ∷ ks) h = (not-among k ks h.0, pairs-distinct ks h.1)

pub pair_names-distinct : {Y Z T : Type 0} (es : List ((String Y × String Z) × T)) → IsDistinct same_pair (keys_of es) → AreDistinct (names_of (imports_in es))
pair_names-distinct es h = subst AreDistinct (pair-names es) (pairs-distinct (keys_of es) h)

-- a new pair goes last
pub pair-insert : {Y Z T : Type 0} (es : List ((String Y × String Z) × T)) (k : String Y × String Z) (v : T) → IsNew (bytes_of k) (imports_in es) → imports_in (insert_entry same_pair es k v) ≡ imports_in es ++ (bytes_of k, v) ∷ []
pair-insert [] k v h = refl
pair-insert (e ∷ es) k v h = rw (differs k e.0 (λ p. h (inl p))) (ap (λ l. (bytes_of e.0, e.1) ∷ l) (pair-insert es k v (λ m. h (inr m))))

-- the entry at a place, from the names and the values
pub pair-place : {Y Z T : Type 0} (es : List ((List ℕ × List ℕ) × T)) (ts : List (String Y × String Z)) (vs : List T) (i : ℕ) (t : String Y × String Z) (v : T) → pairs_of ts ≡ names_of es → vs ≡ values_of es → i < length es →
    t ≡ get_or ts i t → v ≡ get_or vs i v → slice_get es i ≡ Some (bytes_of t, v)
pair-place [] ts vs i d e h k l p q = absurd (omega arith)
pair-place (x ∷ es) [] vs i d e h k l p q = absurd (cc h)
pair-place (x ∷ es) (t ∷ ts) [] i d e h k l p q = absurd (cc k)
pair-place (x ∷ es) (t ∷ ts) (v ∷ vs) zero d e h k l p q =
    let n : bytes_of t ≡ x.0 = cc h in
    let w : v ≡ x.1 = cc k in
    ap Some (ap (λ a. (a, x.1)) (sym n ∙ ap bytes_of (sym p)) ∙ ap (λ b. (bytes_of d, b)) (sym w ∙ sym q))
pair-place (x ∷ es) (t ∷ ts) (v ∷ vs) (suc i) d e h k l p q =
    let n : pairs_of ts ≡ names_of es = cc h in
    let w : vs ≡ values_of es = cc k in
    pair-place es ts vs i d e n w (omega arith) p q
