-- The tests of names say yes of compatible ones alone, and of later ones alone.
use Rattle.std.proofs.Common.{◌≡◌, ℕ, Bool, true, false, List, ◌∷◌, ◌++◌, length, Option, Some, None, refl, sym, ap, ◌∙◌, inl, inr}
use Rattle.std.proofs.lemmas.Bool.{and_parts, or_cases}
use Rattle.std.specs.Prelude.{◌==◌, ◌⊎◌, bytes_eq, nat_lt, option_map, if◌then◌else◌}
use Rattle.std.specs.Fmt.{decimal}
use Rattle.std.specs.declared.cmp.Ordering.{Ordering}
use Rattle.std.proofs.lemmas.Slice.Eq.{bytes_eq-Decides}
use Rattle.std.proofs.lemmas.Bool.Decides.{Decides-eqb}
use Rattle.semver.specs.Parse.{Parts}
use Rattle.wac_types_base.specs.Entries.{Name}
use Rattle.wac_types_names.specs.Tracks.{before_at, version_of, track_text, key_with, key_from, lookup_key, IsOnTrack, ShareTrack, AreCompatible, IsLater}
use Rattle.wac_types_names.specs.Versions.{version_cmp}
use Rattle.wac_composition.specs.Names.{track_number, numbers_agree, tracks_agree, same_track, compatible, later_version, is_later}
use Rattle.wac_composition.proofs.AskedAgain.{greater_is}

-- the text of a track's number
abbrev number_text : ℕ × ℕ → List ℕ
number_text a = if nat_lt 0 a.0 then decimal a.0 else 48 ∷ 46 ∷ decimal a.1

text_by : (x y z : Bool) (a b : ℕ) → nat_lt 0 a ≡ y → (if x then None else if y then Some (decimal a) else if z then Some (48 ∷ 46 ∷ decimal b) else None) ≡ option_map number_text (if x then None else if y then Some (a, 0) else if z then Some (0, b) else None)
text_by true y z a b e = refl
text_by false true z a b e = rw e refl
text_by false false true a b e = refl
text_by false false false a b e = refl

text_is : (p : Parts) → track_text p ≡ option_map number_text (track_number p)
text_is p = text_by (nat_lt 0 (length p.3)) (nat_lt 0 p.0) (nat_lt 0 p.1) p.0 p.1 refl

-- the versions behind two names, on one track
record AreOn (m n : Name) : Type 0 where
  first : Parts
  second : Parts
  number : ℕ × ℕ
  first_is : version_of m ≡ Some first
  second_is : version_of n ≡ Some second
  first_on : track_number first ≡ Some number
  second_on : track_number second ≡ Some number

numbers_same : (o u : Option (ℕ × ℕ)) → numbers_agree o u ≡ true → (a : ℕ × ℕ) × (o ≡ Some a) × (u ≡ Some a)
numbers_same (Some a) (Some b) e =
    let h = and_parts (a.0 == b.0) (a.1 == b.1) e in
    let x = (Decides-eqb a.0 b.0).0 h.0 in
    let y = (Decides-eqb a.1 b.1).0 h.1 in
    let same : b ≡ a = λ o. (sym x o, sym y o) in
    (a, refl, ap Some same)
numbers_same None u e = absurd (cc e)
numbers_same (Some a) None e = absurd (cc e)

tracks_same : (m n : Name) (o u : Option Parts) → version_of m ≡ o → version_of n ≡ u → tracks_agree o u ≡ true → AreOn m n
tracks_same m n (Some p) (Some q) a b e =
    let h = numbers_same (track_number p) (track_number q) e in
    record { first = p; second = q; number = h.0; first_is = a; second_is = b; first_on = h.1; second_on = h.2 }
tracks_same m n None u a b e = absurd (cc e)
tracks_same m n (Some p) None a b e = absurd (cc e)

on_track : (n front : Name) (p : Parts) (a : ℕ × ℕ) → before_at n ≡ front → version_of n ≡ Some p → track_number p ≡ Some a → IsOnTrack (front ++ 64 ∷ number_text a) n p
unfolding lookup_key
on_track n front p a f v t =
    ap (key_from (before_at n)) v ∙ ap (key_with (before_at n) p) (text_is p ∙ ap (option_map number_text) t)
    ∙ ap (λ (m : Name). key_with m p (Some (number_text a))) f

same_track_is : (m n : Name) → same_track m n ≡ true → AreOn m n × (before_at m ≡ before_at n)
same_track_is m n e =
    let h = and_parts (bytes_eq (before_at m) (before_at n)) (tracks_agree (version_of m) (version_of n)) e in
    (tracks_same m n (version_of m) (version_of n) refl refl h.1, (bytes_eq-Decides (before_at m) (before_at n)).0 h.0)

shared : (m n : Name) → AreOn m n → before_at m ≡ before_at n → ShareTrack m n
shared m n a f = (
  before_at n ++ 64 ∷ number_text a.number,
  a.first,
  a.second,
  on_track m (before_at n) a.first a.number f a.first_is a.first_on,
  on_track n (before_at n) a.second a.number refl a.second_is a.second_on,
)

pub compatible_is : (m n : Name) → compatible m n ≡ true → AreCompatible m n
compatible_is m n e = by (or_cases (bytes_eq m n) (same_track m n) e)
  where
    by : (bytes_eq m n ≡ true) ⊎ (same_track m n ≡ true) → AreCompatible m n
    by (inl h) = inl ((bytes_eq-Decides m n).0 h)
    by (inr h) = let s = same_track_is m n h in inr (shared m n s.0 s.1)

later_at : (o u : Option Parts) (p q : Parts) → o ≡ Some p → u ≡ Some q → later_version o u ≡ true → version_cmp p q ≡ Ordering.Greater
later_at o u p q a b e = greater_is (version_cmp p q) (ap (λ x. later_version x (Some q)) (sym a) ∙ ap (λ y. later_version o y) (sym b) ∙ e)

pub later_is : (m n : Name) → is_later m n ≡ true → IsLater m n
later_is m n e =
    let h = and_parts (same_track m n) (later_version (version_of m) (version_of n)) e in
    let s = same_track_is m n h.0 in
    let a = s.0 in (
      before_at n ++ 64 ∷ number_text a.number,
      a.first,
      a.second,
      on_track m (before_at n) a.first a.number s.1 a.first_is a.first_on,
      on_track n (before_at n) a.second a.number refl a.second_is a.second_on,
      later_at (version_of m) (version_of n) a.first a.second a.first_is a.second_is h.1,
    )
