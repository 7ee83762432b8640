-- The tests of the forms of names decide them.
use Rattle.std.proofs.Common.{◌≡◌, ℕ, ◌+◌, ◌<◌, ◌≤◌, Bool, true, false, cond, List, [], ◌∷◌, ◌++◌, length, take, drop, get_or, length-append, append_assoc, refl, sym, ap, ◌∙◌, arith, inl, inr}
use Rattle.std.specs.Prelude.{◌≢◌, ◌==◌, ◌&&◌, not, nat_lt, None}
use Rattle.std.specs.Bool.{Decides}
use Rattle.std.specs.List.{AllByRecursion, list_all, slice_split, onto_first, join_with_byte, before_first, after_first, position_or_len}
use Rattle.std.specs.Cmp.Lexicographic.{pointwise}
use Rattle.std.proofs.lemmas.Bool.{and_from, cases_lt, lt-ltb, ltb-true, and_parts}
use Rattle.std.proofs.lemmas.List.{take-append-drop}
use Rattle.std.proofs.lemmas.Slice.Eq.{bytes_eq-Decides}
use Rattle.std.proofs.lemmas.List.Sums.{passes_at_first, split_at_first}
use Rattle.std.proofs.lemmas.List.Splits.{join_with_byte-slice_split, length-slice_split, slice_split-cons_no, slice_split-cons_yes}
use Rattle.std.proofs.lemmas.Bool.Decides.{Decides-eqb}
use Rattle.wac_names.specs.ComponentNames.{IsJoined, IsPair, IsBehind}
use Rattle.wac_names.specs.NameTests.{joined_test, pair_test, behind_test}
use Rattle.wac_names.proofs.Parts.{some_of}

some_none : (n : ℕ) → some_of n ≡ None → ⊥
some_none n e = cc

-- no position is the length
pub none_len : (n len : ℕ) → n ≤ len → cond (nat_lt n len) (some_of n) None ≡ None → n ≡ len
none_len n len le e =
    elim (cases_lt n len) [
      | inl lt ↦ absurd (some_none n (sym (ap (λ b. cond b (some_of n) None) (lt-ltb n len lt)) ∙ e))
      | inr ge ↦ omega (arith, le, ge)
    ]

-- ---- parts with a byte between them

abbrev pub NoByte : ℕ → List ℕ → Type 0
NoByte c w = AllByRecursion (λ b. (b == c) ≡ false) w

split_before : (c : ℕ) (w rest : List ℕ) → NoByte c w → slice_split (λ b. b == c) (w ++ c ∷ rest) ≡ w ∷ slice_split (λ b. b == c) rest
split_before c [] rest n = slice_split-cons_yes (λ b. b == c) c rest ((Decides-eqb c c).1 refl)
split_before c (x ∷ w) rest n = slice_split-cons_no (λ b. b == c) x (w ++ c ∷ rest) n.0 ∙ ap (onto_first x) (split_before c w rest n.1)

split_none : (c : ℕ) (w : List ℕ) → NoByte c w → slice_split (λ b. b == c) w ≡ w ∷ []
split_none c [] n = refl
split_none c (x ∷ w) n = slice_split-cons_no (λ b. b == c) x w n.0 ∙ ap (onto_first x) (split_none c w n.1)

split_join : (c : ℕ) (parts : List (List ℕ)) → parts ≢ [] → AllByRecursion (NoByte c) parts → slice_split (λ b. b == c) (join_with_byte c parts) ≡ parts
split_join c [] some n = absurd (some refl)
split_join c (w ∷ []) some n = split_none c w n.0
split_join c (w ∷ v ∷ parts) some n = split_before c w (join_with_byte c (v ∷ parts)) n.0 ∙ ap (λ (t : List (List ℕ)). w ∷ t) (split_join c (v ∷ parts) (λ e. cc) n.1)

all_decided : (t : List ℕ → Bool) (P : List ℕ → Type 0) → ((w : List ℕ) → Decides (t w) (P w)) → (parts : List (List ℕ)) → Decides (list_all t parts) (AllByRecursion P parts)
all_decided t P d [] = (λ e. tt, λ a. refl)
all_decided t P d (w ∷ parts) = (
  λ e. let a = and_parts (t w) (list_all t parts) e in ((d w).0 a.0, (all_decided t P d parts).0 a.1),
  λ a. and_from _ _ ((d w).1 a.0) ((all_decided t P d parts).1 a.1),
)

pub all_weaker : {X : Type 0} {P Q : X → Type 0} → ((x : X) → P x → Q x) → (xs : List X) → AllByRecursion P xs → AllByRecursion Q xs
all_weaker h [] a = tt
all_weaker h (x ∷ xs) a = (h x a.0, all_weaker h xs a.1)

pub joined_decides : (c : ℕ) (t : List ℕ → Bool) (P : List ℕ → Type 0) → ((w : List ℕ) → Decides (t w) (P w)) → ((w : List ℕ) → P w → AllByRecursion (λ b. (b == c) ≡ false) w)
    → (text : List ℕ) → Decides (joined_test c t text) (IsJoined c P text)
joined_decides c t P d lacks text = (
  λ e. record {
    parts = slice_split (λ b. b == c) text;
    is = sym (join_with_byte-slice_split c text);
    some = λ e. omega (arith, length-slice_split (λ b. b == c) text, ap length e);
    each = (all_decided t P d (slice_split (λ b. b == c) text)).0 e;
  },
  λ j. ap (λ (x : List ℕ). list_all t (slice_split (λ b. b == c) x)) j.is ∙ ap (λ (x : List (List ℕ)). list_all t x) (split_join c j.parts j.some (all_weaker lacks j.parts j.each)) ∙ (all_decided t P d j.parts).1 j.each,
)

-- ---- two parts around a byte

pub first_place : (c : ℕ) (f s : List ℕ) → NoByte c f → position_or_len (λ b. b == c) (f ++ c ∷ s) ≡ length f
first_place c [] s n = rw ((Decides-eqb c c).1 refl) refl
first_place c (x ∷ f) s n = let h = n.0 in let k = first_place c f s n.1 in rw h (omega (arith, k))

taken : (f s : List ℕ) → take (length f) (f ++ s) ≡ f
taken [] s = refl
taken (x ∷ f) s = ap (λ (t : List ℕ). x ∷ t) (taken f s)

dropped_all : (f s : List ℕ) → drop (length f) (f ++ s) ≡ s
dropped_all [] s = refl
dropped_all (x ∷ f) s = dropped_all f s

pub dropped : (f s : List ℕ) (c : ℕ) → drop (length f + 1) (f ++ c ∷ s) ≡ s
dropped f s c =
    let e : f ++ c ∷ s ≡ (f ++ c ∷ []) ++ s = sym (append_assoc f (c ∷ []) s) in
    let n : length f + 1 ≡ length (f ++ c ∷ []) = sym (length-append f (c ∷ [])) in
    ap (λ (k : ℕ). drop k (f ++ c ∷ s)) n ∙ ap (λ (t : List ℕ). drop (length (f ++ c ∷ [])) t) e ∙ dropped_all (f ++ c ∷ []) s

pub pair_decides : (c : ℕ) (t u : List ℕ → Bool) (P Q : List ℕ → Type 0) → ((w : List ℕ) → Decides (t w) (P w)) → ((w : List ℕ) → Decides (u w) (Q w)) → ((w : List ℕ) → P w → AllByRecursion (λ b. (b == c) ≡ false) w)
    → (text : List ℕ) → Decides (pair_test c t u text) (IsPair c P Q text)
pair_decides c t u P Q d e lacks text = (
  λ h.
      let p = λ (b : ℕ). b == c in
      let a = and_parts (nat_lt (position_or_len p text) (length text)) (t (before_first p text) && u (after_first p text)) h in
      let b = and_parts (t (before_first p text)) (u (after_first p text)) a.1 in
      let lt = ltb-true (position_or_len p text) (length text) a.0 in
      let at = (Decides-eqb (get_or text (position_or_len p text) 0) c).0 (passes_at_first p text 0 lt) in
      record {
        first = before_first p text;
        second = after_first p text;
        is = split_at_first p text 0 lt ∙ ap (λ (x : ℕ). before_first p text ++ x ∷ after_first p text) at;
        left = (d (before_first p text)).0 b.0;
        right = (e (after_first p text)).0 b.1;
      },
  λ j.
      let p = λ (b : ℕ). b == c in
      let place = first_place c j.first j.second (lacks j.first j.left) in
      let lt : length j.first < length (j.first ++ c ∷ j.second) = omega (arith, length-append j.first (c ∷ j.second)) in
      let one : nat_lt (position_or_len p (j.first ++ c ∷ j.second)) (length (j.first ++ c ∷ j.second)) ≡ true = ap (λ (n : ℕ). nat_lt n (length (j.first ++ c ∷ j.second))) place ∙ lt-ltb _ _ lt in
      let two : t (before_first p (j.first ++ c ∷ j.second)) ≡ true = ap (λ (n : ℕ). t (take n (j.first ++ c ∷ j.second))) place ∙ ap t (taken j.first (c ∷ j.second)) ∙ (d j.first).1 j.left in
      let three : u (after_first p (j.first ++ c ∷ j.second)) ≡ true = ap (λ (n : ℕ). u (drop (n + 1) (j.first ++ c ∷ j.second))) place ∙ ap u (dropped j.first j.second c) ∙ (e j.second).1 j.right in
      ap (λ (x : List ℕ). pair_test c t u x) j.is ∙ and_from _ _ one (and_from _ _ two three),
)

-- ---- a part behind others

pub behind_decides : (front : List ℕ) (t : List ℕ → Bool) (P : List ℕ → Type 0) → ((w : List ℕ) → Decides (t w) (P w)) → (text : List ℕ) → Decides (behind_test front t text) (IsBehind front P text)
behind_decides front t P d text = (
  λ h.
      let n = length front in
      let a = and_parts (pointwise ◌==◌ (take n text) front) (t (drop n text)) h in
      record { rest = drop n text; is = sym (take-append-drop n text) ∙ ap (λ (x : List ℕ). x ++ drop n text) ((bytes_eq-Decides (take n text) front).0 a.0); form = (d (drop n text)).0 a.1 },
  λ j.
      let one = (bytes_eq-Decides (take (length front) text) front).1 (ap (take (length front)) j.is ∙ taken front j.rest) in
      and_from _ _ one (ap (λ (x : List ℕ). t (drop (length front) x)) j.is ∙ ap t (dropped_all front j.rest) ∙ (d j.rest).1 j.form),
)

pub no_place : (c : ℕ) (text : List ℕ) → NoByte c text → position_or_len (λ b. b == c) text ≡ length text
no_place c [] n = refl
no_place c (x ∷ xs) n = let h = n.0 in let k = no_place c xs n.1 in rw h (omega (arith, k))

pub place_le : (c : ℕ) (text : List ℕ) → position_or_len (λ b. b == c) text ≤ length text
place_le c [] = omega arith
place_le c (x ∷ xs) = go (x == c) (place_le c xs)
  where
    go : (b : Bool) → position_or_len (λ b. b == c) xs ≤ length xs → cond (not b) (1 + position_or_len (λ b. b == c) xs) 0 ≤ length (x ∷ xs)
    go true le = omega arith
    go false le = omega (arith, le)
