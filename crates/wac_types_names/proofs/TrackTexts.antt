-- Where the text of a version is cut for its track, and where a name is.
use Rattle.std.proofs.Common.{◌≡◌, ℕ, suc, ◌+◌, ◌-◌, ◌%◌, ◌^◌, ◌<◌, ◌≤◌, Bool, true, false, List, [], ◌∷◌, ◌++◌, length, take, drop, get_or, slice_index, length-append, length-drop, refl, sym, ap, ◌∙◌, subst, arith, inl, inr, lit<}
use Rattle.std.specs.Prelude.{◌==◌, Option, Some, None, Result, Ok, Err, nat_lt, position}
use Rattle.std.specs.List.{list_any, slice_range, position_or_len, before_first, after_first}
use Rattle.std.specs.Result.{result_ok}
use Rattle.std.specs.Fmt.{decimal}
use Rattle.std.proofs.lemmas.Bool.{cases_lt, lt-ltb, le-ltb}
use Rattle.std.proofs.lemmas.Fmt.{decimal_by_steps, decimal_digit}
use Rattle.std.proofs.lemmas.List.Sums.{passes_at_first, split_at_first}
use Rattle.std.proofs.lemmas.Bool.Decides.{Decides-eqb}
use Rattle.std.proofs.lemmas.List.{take_all}
use Rattle.std.proofs.Math.Seq.{take-append_seam, take-append-add}
use Rattle.semver.specs.Parse.{Parts, version_parts}
use Rattle.semver.specs.Grammar.{IsValid}
use Rattle.semver.specs.Identifiers.{marked, parts_text}
use Rattle.semver.proofs.Grammar.{version_parts-sound}
use Rattle.wac_names.proofs.NameForms.{none_len}
use Rattle.wac_types_base.specs.Entries.{Name}
use Rattle.wac_types_names.specs.Tracks.{read_version, is_at, version_of, track_text, key_with, key_from, lookup_key}
use Rattle.wac_types_names.proofs.Places.{NoByte}
use Rattle.wac_names.proofs.NameForms.{place_le}
use Rattle.wac_names.proofs.NameForms.{first_place}

abbrev pub ok_of : {T E : Type 0} → T → Result T E
ok_of x = Ok x

-- a text that reads to these parts is their text
pub read-text : (text : List ℕ) (p : Parts) → read_version text ≡ Some p → (text ≡ parts_text p) × IsValid p
unfolding read_version
read-text text p e = by (version_parts text) refl e
  where
    by : (r : Result Parts _) → version_parts text ≡ r → result_ok r ≡ Some p → (text ≡ parts_text p) × IsValid p
    by (Ok q) r e =
        let is : q ≡ p = cc e in
        let s = version_parts-sound text q r in
        (sym s.0 ∙ ap parts_text is, subst IsValid is s.1)
    by (Err x) r e = absurd (cc e)

-- ---- digits hold no dot

digit_no_dot : (k : ℕ) → ((48 + k) == 46) ≡ false
digit_no_dot k = grind arith

no_byte-append : (c : ℕ) (xs ys : List ℕ) → NoByte c xs → NoByte c ys → NoByte c (xs ++ ys)
no_byte-append c [] ys a b = b
no_byte-append c (x ∷ xs) ys a b = (a.0, no_byte-append c xs ys a.1 b)

pub decimal_no_dot : (n : ℕ) → n < 2 ^ 64 → NoByte 46 (decimal n)
decimal_no_dot n fits =
    decimal_by_steps (λ k ds. NoByte 46 ds)
    (λ k low. (digit_no_dot k, tt))
    (λ k ds big ih. no_byte-append 46 ds ((48 + k % 10) ∷ []) ih (digit_no_dot (k % 10), tt))
    n fits

-- ---- cut before a dot

abbrev pub CutAt : List ℕ → List ℕ → ℕ → Type 0
CutAt text front n = (n < length text) × (slice_index text n ≡ 46) × (front ≡ take n text)

get_or-seam : (front rest : List ℕ) (c : ℕ) → slice_index (front ++ c ∷ rest) (length front) ≡ c
get_or-seam [] rest c = refl
get_or-seam (x ∷ front) rest c = get_or-seam front rest c

pub cut_before : (text front rest : List ℕ) → text ≡ front ++ 46 ∷ rest → CutAt text front (length front)
cut_before text front rest e = (
  omega (arith, ap length e, length-append front (46 ∷ rest)),
  ap (λ (t : List ℕ). slice_index t (length front)) e ∙ get_or-seam front rest 46,
  sym (ap (take (length front)) e ∙ take-append_seam front (46 ∷ rest)),
)

-- the text of a version, by its first two numbers
abbrev rest_of : Parts → List ℕ
rest_of p = decimal p.2 ++ (marked 45 p.3 ++ marked 43 p.4)

pub first_dot : (text : List ℕ) (p : Parts) → read_version text ≡ Some p → CutAt text (decimal p.0) (position_or_len (λ b. b == 46) text)
first_dot text p e =
    let r = read-text text p e in
    let place : position_or_len (λ b. b == 46) text ≡ length (decimal p.0) = ap (λ (t : List ℕ). position_or_len (λ b. b == 46) t) r.0 ∙ first_place 46 (decimal p.0) (decimal p.1 ++ 46 ∷ rest_of p) (decimal_no_dot p.0 r.1.0) in
    subst (λ (n : ℕ). CutAt text (decimal p.0) n) (sym place) (cut_before text (decimal p.0) (decimal p.1 ++ 46 ∷ rest_of p) r.0)

zero_text : (text : List ℕ) (p : Parts) → read_version text ≡ Some p → p.0 ≡ 0 → text ≡ (48 ∷ 46 ∷ decimal p.1) ++ 46 ∷ rest_of p
zero_text text p e z =
    let r = read-text text p e in
    r.0 ∙ ap (λ (n : ℕ). decimal n ++ 46 ∷ (decimal p.1 ++ 46 ∷ rest_of p)) z ∙ ap (λ (t : List ℕ). t ++ 46 ∷ (decimal p.1 ++ 46 ∷ rest_of p)) (decimal_digit 0 (lit< tt))

pub second_dot : (text : List ℕ) (p : Parts) → read_version text ≡ Some p → p.0 ≡ 0 → CutAt text (48 ∷ 46 ∷ decimal p.1) (2 + position_or_len (λ b. b == 46) (drop 2 text))
second_dot text p e z =
    let t = zero_text text p e z in
    let r = read-text text p e in
    let place : position_or_len (λ b. b == 46) (drop 2 text) ≡ length (decimal p.1) = ap (λ (t : List ℕ). position_or_len (λ b. b == 46) (drop 2 t)) t ∙ first_place 46 (decimal p.1) (rest_of p) (decimal_no_dot p.1 r.1.1) in
    let n : 2 + position_or_len (λ b. b == 46) (drop 2 text) ≡ length (48 ∷ 46 ∷ decimal p.1) = omega (arith, place) in
    subst (λ (n : ℕ). CutAt text (48 ∷ 46 ∷ decimal p.1) n) (sym n) (cut_before text (48 ∷ 46 ∷ decimal p.1) (rest_of p) t)

pub two_long : (text : List ℕ) (p : Parts) → read_version text ≡ Some p → p.0 ≡ 0 → 2 ≤ length text
two_long text p e z = omega (arith, ap length (zero_text text p e z))

-- ---- the track of a version, by where its text is cut

abbrev pub TrackEnds : List ℕ → Parts → ℕ → Type 0
TrackEnds text p n = (n < length text) × (slice_index text n ≡ 46) × (track_text p ≡ Some (take n text))

some_front : (front cut : List ℕ) → front ≡ cut → Some front ≡ Some cut
some_front front cut e = ap (λ (t : List ℕ). Some t) e

pub track_first : (text : List ℕ) (p : Parts) (n : ℕ) → read_version text ≡ Some p → length p.3 ≡ 0 → 0 < p.0 → n ≡ 0 + position_or_len (λ b. b == 46) (drop 0 text) → TrackEnds text p n
track_first text p n e plain big at =
    let c = first_dot text p e in
    let is : position_or_len (λ b. b == 46) text ≡ n = omega (arith, at) in
    let d = subst (λ (m : ℕ). CutAt text (decimal p.0) m) is c in
    let t : track_text p ≡ Some (decimal p.0) = rw (plain, lt-ltb 0 p.0 big) refl in
    (d.0, d.1, t ∙ some_front _ _ d.2)

pub track_second : (text : List ℕ) (p : Parts) (n : ℕ) → read_version text ≡ Some p → length p.3 ≡ 0 → p.0 ≡ 0 → 0 < p.1 → n ≡ 2 + position_or_len (λ b. b == 46) (drop 2 text) → TrackEnds text p n
track_second text p n e plain zero_major big at =
    let d = subst (λ (m : ℕ). CutAt text (48 ∷ 46 ∷ decimal p.1) m) (sym at) (second_dot text p e zero_major) in
    let t : track_text p ≡ Some (48 ∷ 46 ∷ decimal p.1) = rw (plain, zero_major, lt-ltb 0 p.1 big) refl in
    (d.0, d.1, t ∙ some_front _ _ d.2)

-- ---- a name, by its first `@`

one_more : (m n : ℕ) → nat_lt m n ≡ nat_lt (1 + m) (1 + n)
one_more m n = elim (cases_lt m n) [
  | inl lt ↦ lt-ltb m n lt ∙ sym (lt-ltb (1 + m) (1 + n) (omega arith))
  | inr le ↦ le-ltb m n le ∙ sym (le-ltb (1 + m) (1 + n) (omega arith))
]

pub one_longer : (n : ℕ) → 1 + n ≡ suc n
one_longer n = omega arith

has_at : (name : Name) → list_any is_at name ≡ nat_lt (position_or_len is_at name) (length name)
has_at [] = refl
has_at (b ∷ name) = by (is_at b) refl (has_at name)
  where
    by : (t : Bool) → is_at b ≡ t → list_any is_at name ≡ nat_lt (position_or_len is_at name) (length name) → list_any is_at (b ∷ name) ≡ nat_lt (position_or_len is_at (b ∷ name)) (length (b ∷ name))
    by true e h = rw e (sym (lt-ltb 0 (length (b ∷ name)) (omega arith)))
    by false e h = rw e (h ∙ one_more (position_or_len is_at name) (length name) ∙ ap (λ (n : ℕ). nat_lt (1 + position_or_len is_at name) n) (one_longer (length name)))

pub no_at : (name : Name) → position_or_len is_at name ≡ length name → lookup_key name ≡ None
unfolding lookup_key version_of
no_at name e = rw (has_at name, le-ltb (position_or_len is_at name) (length name) (omega arith)) refl

abbrev pub ParsedAt : Name → List ℕ → List ℕ → Type 0
ParsedAt name front text = (position_or_len is_at name < length name) × (front ≡ before_first is_at name) × (text ≡ after_first is_at name)

pub key_at : (name front text : List ℕ) → ParsedAt name front text → lookup_key name ≡ key_from front (read_version text)
unfolding lookup_key version_of
key_at name front text s = rw (has_at name, lt-ltb (position_or_len is_at name) (length name) s.0, s.1, s.2) refl

pub around_at : (name front text : List ℕ) → ParsedAt name front text → name ≡ front ++ 64 ∷ text
around_at name front text s =
    rw (s.1, s.2) (split_at_first is_at name 0 s.0 ∙ ap (λ (x : ℕ). before_first is_at name ++ x ∷ after_first is_at name) ((Decides-eqb (get_or name (position_or_len is_at name) 0) 64).0 (passes_at_first is_at name 0 s.0)))

-- a name without a version, or with one that has no track
pub no_key : (name front text : List ℕ) → ParsedAt name front text → read_version text ≡ None → lookup_key name ≡ None
no_key name front text s e = key_at name front text s ∙ ap (key_from front) e

pub no_track : (name front text : List ℕ) (p : Parts) → ParsedAt name front text → read_version text ≡ Some p → track_text p ≡ None → lookup_key name ≡ None
no_track name front text p s e t = key_at name front text s ∙ ap (key_from front) e ∙ ap (key_with front p) t

cut_name : (front text : List ℕ) (n : ℕ) → take (length front + 1 + n) (front ++ 64 ∷ text) ≡ front ++ 64 ∷ take n text
cut_name front text n =
    let e : length front + 1 + n ≡ length front + suc n = omega arith in
    ap (λ (m : ℕ). take m (front ++ 64 ∷ text)) e ∙ take-append-add front (64 ∷ text) (suc n)

from_start : (name : List ℕ) (n : ℕ) → slice_range name 0 n ≡ take n name
from_start name n =
    let e : n - 0 ≡ n = omega arith in
    ap (λ (m : ℕ). take m name) e

pub on_track : (name front text cut : List ℕ) (p : Parts) (n : ℕ) → ParsedAt name front text → read_version text ≡ Some p → track_text p ≡ Some (take n text) → cut ≡ slice_range name 0 (length front + 1 + n) → lookup_key name ≡ Some (cut, p)
on_track name front text cut p n s e t is =
    let c : cut ≡ front ++ 64 ∷ take n text = is ∙ from_start name (length front + 1 + n) ∙ ap (take (length front + 1 + n)) (around_at name front text s) ∙ cut_name front text n in
    key_at name front text s ∙ ap (key_from front) e ∙ ap (key_with front p) t ∙ ap (λ (k : List ℕ). some_key k) (sym c)
  where
    some_key : List ℕ → Option (Name × Parts)
    some_key k = Some (k, p)

-- no dot from a place on
pub no_dot : (text : List ℕ) (from : ℕ) → from ≤ length text → position (λ b. b == 46) (take (length text - from) (drop from text)) ≡ None → length text ≡ from + position_or_len (λ b. b == 46) (drop from text)
no_dot text from le e =
    let n : length (drop from text) ≤ length text - from = omega (arith, length-drop from text) in
    let whole = take_all (length text - from) (drop from text) n in
    let h = none_len _ _ (place_le 46 (drop from text)) (ap (λ (t : List ℕ). position (λ b. b == 46) t) (sym whole) ∙ e) in
    omega (arith, h, length-drop from text)
