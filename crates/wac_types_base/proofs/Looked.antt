-- A look-up among entries with texts as keys, by their bytes.
use Rattle.std.proofs.Common.{◌≡◌, ℕ, zero, suc, ◌+◌, ◌<◌, List, [], ◌∷◌, ◌++◌, length, take, Some, ◌==◌, ◌||◌, cond, Bool, true, false, if◌then◌else◌, refl, sym, ap, subst, ◌∙◌, slice_get, get_or, inl, inr, arith}
use Rattle.std.proofs.lemmas.Slice.Eq.{bytes_eq-Decides}
use Rattle.std.specs.List.{IsDistinct, AllByRecursion, list_any}
use Rattle.indexmap.specs.IndexSet.{insert_key}
use Rattle.wac_types_base.specs.Graph.{Among}
use Rattle.std.specs.Prelude.{String, string_bytes}
use Rattle.std.specs.Map.{lookup, keys_of, values_of as map_values}
use Rattle.indexmap.specs.IndexMap.{insert_entry}
use Rattle.std.specs.Cmp.Lexicographic.{pointwise}
use Rattle.wac_types_base.specs.Entries.{entries_of, value_at, put_entry, texts_of, names_of, values_of, AreDistinct, IsNew, has_name, put_name}

pub looked : {Z T : Type 0} (n : List ℕ) (es : List (String Z × T)) → lookup (λ k. pointwise ◌==◌ n (string_bytes k)) es ≡ value_at (entries_of es) n
looked n [] = refl
looked n (e ∷ es) = ap (λ o. cond (pointwise ◌==◌ n (string_bytes e.0)) (Some e.1) o) (looked n es)

pub inserted : {Z T : Type 0} (es : List (String Z × T)) (k : String Z) (v : T) → entries_of (insert_entry (λ a b. pointwise ◌==◌ (string_bytes a) (string_bytes b)) es k v) ≡ put_entry (entries_of es) (string_bytes k) v
inserted [] k v = refl
inserted (e ∷ es) k v = by_test (pointwise ◌==◌ (string_bytes k) (string_bytes e.0)) e es k v (inserted es k v)
  where
    by_test : {Z T : Type 0} (b : Bool) (e : String Z × T) (es : List (String Z × T)) (k : String Z) (v : T) → entries_of (insert_entry (λ a b. pointwise ◌==◌ (string_bytes a) (string_bytes b)) es k v) ≡ put_entry (entries_of es) (string_bytes k) v →
        entries_of (if b then (e.0, v) ∷ es else e ∷ insert_entry (λ a b. pointwise ◌==◌ (string_bytes a) (string_bytes b)) es k v) ≡ (if b then (string_bytes e.0, v) ∷ entries_of es else (string_bytes e.0, e.1) ∷ put_entry (entries_of es) (string_bytes k) v)
    by_test true e es k v h = refl
    by_test false e es k v h = ap (λ l. (string_bytes e.0, e.1) ∷ l) h

pub names-entries : {Z T : Type 0} (es : List (String Z × T)) → texts_of (keys_of es) ≡ names_of (entries_of es)
names-entries [] = refl
names-entries (e ∷ es) = ap (λ l. string_bytes e.0 ∷ l) (names-entries es)

pub values-entries : {Z T : Type 0} (es : List (String Z × T)) → map_values es ≡ values_of (entries_of es)
values-entries [] = refl
values-entries (e ∷ es) = ap (λ l. e.1 ∷ l) (values-entries es)

-- equal texts pass the test
same_passes : (a b : List ℕ) → a ≡ b → pointwise ◌==◌ a b ≡ true
same_passes a b e = (bytes_eq-Decides a b).1 e

not-among : {Z : Type 0} (k : String Z) (ks : List (String Z)) → AllByRecursion (λ y. pointwise ◌==◌ (string_bytes k) (string_bytes y) ≡ false) ks → Among (string_bytes k) (texts_of ks) → ⊥
not-among k [] h m = m
not-among k (y ∷ ks) h (inl e) = absurd (cc (h.0, same_passes _ _ e))
not-among k (y ∷ ks) h (inr m) = not-among k ks h.1 m

pub texts-distinct : {Z : Type 0} (ks : List (String Z)) → IsDistinct (λ a b. pointwise ◌==◌ (string_bytes a) (string_bytes b)) ks → AreDistinct (texts_of ks)
unfolding IsDistinct
texts-distinct [] h = tt
texts-distinct (k ∷ ks) h = (not-among k ks h.0, texts-distinct ks h.1)

pub names-distinct : {Z T : Type 0} (es : List (String Z × T)) → IsDistinct (λ a b. pointwise ◌==◌ (string_bytes a) (string_bytes b)) (keys_of es) → AreDistinct (names_of (entries_of es))
names-distinct es h = subst AreDistinct (names-entries es) (texts-distinct (keys_of es) h)

-- the entry at a place, from the names and the values
pub entry-place : {Z T : Type 0} (es : List (List ℕ × T)) (ts : List (String Z)) (vs : List T) (i : ℕ) (d : String Z) (e : T) → texts_of ts ≡ names_of es → vs ≡ values_of es → i < length es →
    slice_get es i ≡ Some (string_bytes (get_or ts i d), get_or vs i e)
entry-place [] ts vs i d e h k l = absurd (omega arith)
entry-place (x ∷ es) [] vs i d e h k l = absurd (cc h)
entry-place (x ∷ es) (t ∷ ts) [] i d e h k l = absurd (cc k)
entry-place (x ∷ es) (t ∷ ts) (v ∷ vs) zero d e h k l =
    let n : string_bytes t ≡ x.0 = cc h in
    let w : v ≡ x.1 = cc k in
    ap Some (ap (λ a. (a, x.1)) (sym n) ∙ ap (λ b. (string_bytes t, b)) (sym w))
entry-place (x ∷ es) (t ∷ ts) (v ∷ vs) (suc i) d e h k l =
    let n : texts_of ts ≡ names_of es = cc h in
    let w : vs ≡ values_of es = cc k in
    entry-place es ts vs i d e n w (omega arith)

pub any-texts : {Z : Type 0} (n : List ℕ) (ks : List (String Z)) → list_any (λ k. pointwise ◌==◌ n (string_bytes k)) ks ≡ has_name (texts_of ks) n
any-texts n [] = refl
any-texts n (k ∷ ks) = ap (λ b. pointwise ◌==◌ n (string_bytes k) || b) (any-texts n ks)

texts-append : {Z : Type 0} (ks : List (String Z)) (k : String Z) → texts_of (ks ++ k ∷ []) ≡ texts_of ks ++ string_bytes k ∷ []
texts-append [] k = refl
texts-append (y ∷ ks) k = ap (λ l. string_bytes y ∷ l) (texts-append ks k)

pub texts-insert : {Z : Type 0} (ks : List (String Z)) (k : String Z) → texts_of (insert_key (λ a b. pointwise ◌==◌ (string_bytes a) (string_bytes b)) ks k) ≡ put_name (texts_of ks) (string_bytes k)
texts-insert ks k = by_test (list_any (λ y. pointwise ◌==◌ (string_bytes k) (string_bytes y)) ks) (has_name (texts_of ks) (string_bytes k)) (any-texts (string_bytes k) ks)
  where
    by_test : (b b' : Bool) → b ≡ b' → texts_of (if b then ks else ks ++ k ∷ []) ≡ (if b' then texts_of ks else texts_of ks ++ string_bytes k ∷ [])
    by_test true true e = refl
    by_test false false e = texts-append ks k
    by_test true false e = absurd (cc e)
    by_test false true e = absurd (cc e)

differs : (a b : List ℕ) → (a ≡ b → ⊥) → pointwise ◌==◌ a b ≡ false
differs a b h = by_test (pointwise ◌==◌ a b) refl
  where
    by_test : (t : Bool) → pointwise ◌==◌ a b ≡ t → t ≡ false
    by_test true e = absurd (h ((bytes_eq-Decides a b).0 e))
    by_test false e = refl

-- a new name goes last
pub put_entry-new : {T : Type 0} (es : List (List ℕ × T)) (n : List ℕ) (v : T) → IsNew n es → put_entry es n v ≡ es ++ (n, v) ∷ []
put_entry-new [] n v h = refl
put_entry-new (e ∷ es) n v h =
    let d = differs n e.0 (λ p. h (inl p)) in
    rw d (ap (λ l. e ∷ l) (put_entry-new es n v (λ m. h (inr m))))

has-not : (ms : List (List ℕ)) (n : List ℕ) → (Among n ms → ⊥) → has_name ms n ≡ false
has-not [] n h = refl
has-not (m ∷ ms) n h =
    let d = differs n m (λ p. h (inl p)) in
    rw (d, has-not ms n (λ k. h (inr k))) refl

pub put_name-new : (ms : List (List ℕ)) (n : List ℕ) → (Among n ms → ⊥) → put_name ms n ≡ ms ++ n ∷ []
put_name-new ms n h = rw (has-not ms n h) refl

pub among-take : {X : Type 0} (x : X) (xs : List X) (i : ℕ) → Among x (take i xs) → Among x xs
among-take x [] zero m = m
among-take x [] (suc i) m = m
among-take x (y ∷ xs) zero m = absurd m
among-take x (y ∷ xs) (suc i) (inl e) = inl e
among-take x (y ∷ xs) (suc i) (inr m) = inr (among-take x xs i m)

pub among-get : {X : Type 0} (xs : List X) (i : ℕ) (x : X) → slice_get xs i ≡ Some x → Among x xs
among-get [] i x e = absurd (cc e)
among-get (y ∷ xs) zero x e = inl (sym (cc e))
among-get (y ∷ xs) (suc i) x e = inr (among-get xs i x e)

-- a name is not among those before it
pub distinct-before : {N : Type 0} (ns : List N) (i : ℕ) (n : N) → AreDistinct ns → slice_get ns i ≡ Some n → Among n (take i ns) → ⊥
distinct-before [] i n d e m = absurd (cc e)
distinct-before (x ∷ ns) zero n d e m = m
distinct-before (x ∷ ns) (suc i) n d e (inl p) = d.0 (among-get ns i x (e ∙ ap Some p))
distinct-before (x ∷ ns) (suc i) n d e (inr m) = distinct-before ns i n d.1 e m

-- one more of a loop over a list
pub take-one_more : {X : Type 0} (xs : List X) (i : ℕ) (x : X) → slice_get xs i ≡ Some x → take (i + 1) xs ≡ take i xs ++ x ∷ []
take-one_more [] i x e = absurd (cc e)
take-one_more (y ∷ xs) zero x e = ap (λ z. z ∷ []) (cc e)
take-one_more (y ∷ xs) (suc i) x e =
    let n : suc i + 1 ≡ suc (i + 1) = omega arith in
    rw n (ap (λ l. y ∷ l) (take-one_more xs i x e))

pub text-place : {Z : Type 0} (ts : List (String Z)) (ns : List (List ℕ)) (i : ℕ) (d : String Z) → texts_of ts ≡ ns → i < length ns → slice_get ns i ≡ Some (string_bytes (get_or ts i d))
text-place ts [] i d h l = absurd (omega arith)
text-place [] (n ∷ ns) i d h l = absurd (cc h)
text-place (t ∷ ts) (n ∷ ns) zero d h l = ap Some (sym (cc h))
text-place (t ∷ ts) (n ∷ ns) (suc i) d h l = let r : texts_of ts ≡ ns = cc h in text-place ts ns i d r (omega arith)
