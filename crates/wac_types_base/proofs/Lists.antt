-- Elements of lists that are joined, mapped, cut and filtered, and what is found under a name.
use Rattle.std.proofs.Common.{◌≡◌, ◌≢◌, ℕ, zero, suc, ◌<◌, ◌≤◌, List, [], ◌∷◌, ◌++◌, map, length, drop, Option, Some, None, IsSome, is_some, filter, Bool, true, false, true≢false, not, cond, if◌then◌else◌, slice_get, ◌⊎◌, inl, inr, refl, sym, ap, ◌∙◌, arith}
use Rattle.std.specs.Prelude.{◌==◌, ◌||◌, bytes_eq, filter_map}
use Rattle.std.specs.Bool.{Decides}
use Rattle.std.specs.Cmp.Lexicographic.{pointwise}
use Rattle.std.specs.List.{cons_option}
use Rattle.std.specs.Option.{option_or}
use Rattle.std.proofs.lemmas.Slice.Eq.{bytes_eq-Decides}
use Rattle.wac_types_base.specs.Graph.{Among}
use Rattle.wac_types_base.specs.Entries.{Name, names_of, has_name, value_at, put_entry, IsNew}

-- ---- elements

pub last_among : {X : Type 0} (xs : List X) (x : X) → Among x (xs ++ x ∷ [])
last_among [] x = inl refl
last_among (y ∷ xs) x = inr (last_among xs x)

pub among_last : {X : Type 0} (x y : X) (xs : List X) → Among x (xs ++ y ∷ []) → Among x xs ⊎ (x ≡ y)
among_last x y [] (inl e) = inr e
among_last x y [] (inr m) = absurd m
among_last x y (z ∷ zs) (inl e) = inl (inl e)
among_last x y (z ∷ zs) (inr m) = elim (among_last x y zs m) [ inl n ↦ inl (inr n) | inr e ↦ inr e ]

pub among_split : {X : Type 0} (x : X) (xs ys : List X) → Among x (xs ++ ys) → Among x xs ⊎ Among x ys
among_split x [] ys m = inr m
among_split x (z ∷ xs) ys (inl e) = inl (inl e)
among_split x (z ∷ xs) ys (inr m) = elim (among_split x xs ys m) [ inl n ↦ inl (inr n) | inr n ↦ inr n ]

pub among_mapped : {X Y : Type 0} (f : X → Y) (xs : List X) (x : X) → Among x xs → Among (f x) (map f xs)
among_mapped f [] x m = absurd m
among_mapped f (y ∷ xs) x (inl e) = inl (ap f e)
among_mapped f (y ∷ xs) x (inr m) = inr (among_mapped f xs x m)

pub among_drop : {X : Type 0} (n : ℕ) (xs : List X) (x : X) → Among x (drop n xs) → Among x xs
among_drop zero [] x m = m
among_drop (suc n) [] x m = m
among_drop zero (y ∷ xs) x m = m
among_drop (suc n) (y ∷ xs) x m = inr (among_drop n xs x m)

pub among_filtered : {X : Type 0} (p : X → Bool) (xs : List X) (x : X) → Among x (filter p xs) → Among x xs × (p x ≡ true)
among_filtered p [] x m = absurd m
among_filtered p (y ∷ xs) x m = by_test (p y) refl (among_filtered p xs x) m
  where
    by_test : (b : Bool) → p y ≡ b → (Among x (filter p xs) → Among x xs × (p x ≡ true)) → Among x (if b then y ∷ filter p xs else filter p xs) → Among x (y ∷ xs) × (p x ≡ true)
    by_test true e h (inl i) = (inl i, ap p i ∙ e)
    by_test true e h (inr n) = let r = h n in (inr r.0, r.1)
    by_test false e h n = let r = h n in (inr r.0, r.1)

pub from_filtered : {X Y : Type 0} (p : X → Option Y) (xs : List X) (y : Y) → Among y (filter_map p xs) → (x : X) × Among x xs × (p x ≡ Some y)
from_filtered p [] y m = absurd m
from_filtered {X} {Y} p (x ∷ xs) y m = go (p x) refl m (from_filtered p xs y)
  where
    go : (o : Option Y) → p x ≡ o → Among y (cons_option o (filter_map p xs)) → (Among y (filter_map p xs) → (z : X) × Among z xs × (p z ≡ Some y)) → (z : X) × Among z (x ∷ xs) × (p z ≡ Some y)
    go None e m rest = let r = rest m in (r.0, inr r.1, r.2)
    go (Some z) e (inl s) rest = (x, inl refl, e ∙ ap Some (sym s))
    go (Some z) e (inr m) rest = let r = rest m in (r.0, inr r.1, r.2)

-- ---- places

pub drop_all : {X : Type 0} (xs : List X) (i : ℕ) → length xs ≤ i → drop i xs ≡ []
drop_all [] zero l = refl
drop_all [] (suc i) l = refl
drop_all (x ∷ xs) zero l = absurd (omega arith)
drop_all (x ∷ xs) (suc i) l = drop_all xs i (omega arith)

pub there_is : {X : Type 0} (xs : List X) (i : ℕ) → i < length xs → (x : X) × (slice_get xs i ≡ Some x)
there_is [] i lt = absurd (omega arith)
there_is (x ∷ xs) zero lt = (x, refl)
there_is (x ∷ xs) (suc i) lt = there_is xs i (omega arith)

-- what a place of an image comes from
pub from_place : {X Y : Type 0} (f : X → Y) (xs : List X) (i : ℕ) (y : Y) → slice_get (map f xs) i ≡ Some y → (x : X) × (slice_get xs i ≡ Some x) × (f x ≡ y)
from_place f [] i y e = absurd (cc e)
from_place f (x ∷ xs) zero y e = (x, refl, cc e)
from_place f (x ∷ xs) (suc i) y e = from_place f xs i y e

-- ---- options, pairs and tests

pub not_some : {X : Type 0} (o : Option X) → (IsSome o → ⊥) → o ≡ None
not_some None h = refl
not_some (Some x) h = absurd (h refl)

pub none_test : {X : Type 0} (o : Option X) (b : Bool) → is_some o ≡ not b → (b ≡ true → o ≡ None) × (((x : X) → o ≡ Some x → ⊥) → b ≡ true)
none_test None true e = (λ h. refl, λ h. refl)
none_test None false e = absurd (cc e)
none_test (Some x) true e = absurd (cc e)
none_test (Some x) false e = (λ h. absurd (cc h), λ h. absurd (h x refl))

pub joined : {X Y : Type 0} (a b : X × Y) → a.0 ≡ b.0 → a.1 ≡ b.1 → a ≡ b
joined a b p q = λ i. (p i, q i)

-- ---- names

pub name_tested : (m n : Name) → ((m ≡ n) × (pointwise ◌==◌ m n ≡ true)) ⊎ ((m ≢ n) × (pointwise ◌==◌ m n ≡ false))
name_tested m n = go (pointwise ◌==◌ m n) refl
  where
    go : (b : Bool) → pointwise ◌==◌ m n ≡ b → ((m ≡ n) × (pointwise ◌==◌ m n ≡ true)) ⊎ ((m ≢ n) × (pointwise ◌==◌ m n ≡ false))
    go true e = inl ((bytes_eq-Decides m n).0 e, e)
    go false e = inr (λ w. absurd (cc (sym e ∙ (bytes_eq-Decides m n).1 w)), e)

pub put_is : {T : Type 0} (es : List (Name × T)) (n : Name) (v : T) → value_at (put_entry es n v) n ≡ Some v
put_is [] n v = ap (λ b. cond b (Some v) None) ((bytes_eq-Decides n n).1 refl)
put_is (e ∷ es) n v = go (put_is es n v) (pointwise ◌==◌ n e.0) refl
  where
    go : value_at (put_entry es n v) n ≡ Some v → (b : Bool) → pointwise ◌==◌ n e.0 ≡ b → value_at (cond b ((e.0, v) ∷ es) (e ∷ put_entry es n v)) n ≡ Some v
    go h true q = ap (λ b. cond b (Some v) (value_at es n)) q
    go h false q = ap (λ b. cond b (Some e.1) (value_at (put_entry es n v) n)) q ∙ h

-- what was found under another name is found
pub put_else : {T : Type 0} (es : List (Name × T)) (n m : Name) (v : T) → m ≢ n → value_at (put_entry es n v) m ≡ value_at es m
put_else [] n m v d = elim (name_tested m n) [ inl h ↦ absurd (d h.0) | inr h ↦ ap (λ b. cond b (Some v) None) h.1 ]
put_else (e ∷ es) n m v d = go (put_else es n m v d) (pointwise ◌==◌ n e.0) refl
  where
    go : value_at (put_entry es n v) m ≡ value_at es m → (b : Bool) → pointwise ◌==◌ n e.0 ≡ b → value_at (cond b ((e.0, v) ∷ es) (e ∷ put_entry es n v)) m ≡ value_at (e ∷ es) m
    go h true q = elim (name_tested m e.0) [
      | inl w ↦ absurd (d (w.0 ∙ sym ((bytes_eq-Decides n e.0).0 q)))
      | inr w ↦ ap (λ b. cond b (Some v) (value_at es m)) w.1 ∙ sym (ap (λ b. cond b (Some e.1) (value_at es m)) w.1)
    ]
    go h false q = ap (λ o. cond (pointwise ◌==◌ m e.0) (Some e.1) o) h

-- a name with no value is new
pub no_value : {T : Type 0} (es : List (Name × T)) (n : Name) → is_some (value_at es n) ≡ false → IsNew n es
no_value [] n h m = m
no_value {T} (e ∷ es) n h m = by_test (pointwise ◌==◌ n e.0) refl h (no_value es n) m
  where
    by_test : (b : Bool) → pointwise ◌==◌ n e.0 ≡ b → is_some (if b then Some e.1 else value_at es n) ≡ false → (is_some (value_at es n) ≡ false → IsNew n es) → Among n (names_of (e ∷ es)) → ⊥
    by_test true q h k m = absurd (cc h)
    by_test false q h k (inl p) = let t = (bytes_eq-Decides n e.0).1 p in absurd (cc (q, t))
    by_test false q h k (inr m) = k h m

pub value_none : {T : Type 0} (es : List (Name × T)) (n : Name) → value_at es n ≡ None → Among n (names_of es) → ⊥
value_none es n e m = no_value es n (ap is_some e) m

pub value_named : {T : Type 0} (es : List (Name × T)) (n : Name) (v : T) → value_at es n ≡ Some v → Among n (names_of es)
value_named [] n v e = absurd (cc e)
value_named (x ∷ es) n v e = elim (name_tested n x.0) [
  | inl h ↦ inl h.0
  | inr h ↦ inr (value_named es n v (sym (ap (λ b. cond b (Some x.1) (value_at es n)) h.1) ∙ e))
]

-- of two lists, the value in the first, else in the second
pub value_both : {T : Type 0} (xs ys : List (Name × T)) (n : Name) → value_at (xs ++ ys) n ≡ option_or (value_at xs n) (value_at ys n)
value_both [] ys n = refl
value_both (x ∷ xs) ys n = by_test (value_both xs ys n) (pointwise ◌==◌ n x.0)
  where
    by_test : value_at (xs ++ ys) n ≡ option_or (value_at xs n) (value_at ys n) → (b : Bool) → cond b (Some x.1) (value_at (xs ++ ys) n) ≡ option_or (cond b (Some x.1) (value_at xs n)) (value_at ys n)
    by_test h true = refl
    by_test h false = h

pub value_append : {T : Type 0} (xs ys : List (Name × T)) (n : Name) (v : T) → value_at xs n ≡ Some v → value_at (xs ++ ys) n ≡ Some v
value_append xs ys n v e = value_both xs ys n ∙ ap (λ o. option_or o (value_at ys n)) e

pub value_behind : {T : Type 0} (xs ys : List (Name × T)) (n : Name) → value_at xs n ≡ None → value_at (xs ++ ys) n ≡ value_at ys n
value_behind xs ys n e = value_both xs ys n ∙ ap (λ o. option_or o (value_at ys n)) e

-- where no name stands, no entry does
pub no_entries : {X : Type 0} (es : List (Name × X)) → names_of es ≡ [] → es ≡ []
no_entries [] e = refl
no_entries (x ∷ es) e = absurd (cc e)

-- ---- tests

-- what holds is told by true
pub always : {P : Type 0} → P → Decides true P
always p = (λ e. p, λ q. refl)

-- two texts are alike either way round
pub bytes_turned : (m n : Name) → bytes_eq m n ≡ bytes_eq n m
bytes_turned m n = go (bytes_eq m n) refl (bytes_eq n m) refl
  where
    go : (a : Bool) → bytes_eq m n ≡ a → (b : Bool) → bytes_eq n m ≡ b → a ≡ b
    go true p true q = refl
    go false p false q = refl
    go true p false q = absurd (true≢false (sym ((bytes_eq-Decides n m).1 (sym ((bytes_eq-Decides m n).0 p))) ∙ q))
    go false p true q = absurd (true≢false (sym ((bytes_eq-Decides m n).1 (sym ((bytes_eq-Decides n m).0 q))) ∙ p))

-- a name that is not found is not among the names
pub not_among : (ms : List Name) (n : Name) → has_name ms n ≡ false → Among n ms → ⊥
not_among [] n e m = m
not_among (x ∷ ms) n e (inl same) = absurd (cc (e, ap (λ (b : Bool). b || has_name ms n) ((bytes_eq-Decides n x).1 same)))
not_among (x ∷ ms) n e (inr m) = not_among ms n (rest (pointwise ◌==◌ n x) e) m
  where
    rest : (b : Bool) → (b || has_name ms n) ≡ false → has_name ms n ≡ false
    rest true q = absurd (cc q)
    rest false q = q
