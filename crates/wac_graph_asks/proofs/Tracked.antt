-- A name is on a track where it has a lookup key.
use Rattle.std.proofs.Common.{◌≡◌, ℕ, Bool, true, false, List, ◌∷◌, length, Option, Some, None, refl, sym, ap, ◌∙◌}
use Rattle.std.specs.Prelude.{◌==◌, ◌&&◌, bytes_eq, nat_lt, is_some, if◌then◌else◌}
use Rattle.std.specs.Fmt.{decimal}
use Rattle.std.proofs.lemmas.Bool.{and_from}
use Rattle.std.proofs.lemmas.Bool.Decides.{Decides-eqb}
use Rattle.std.proofs.lemmas.Slice.Eq.{bytes_eq-Decides}
use Rattle.semver.specs.Parse.{Parts}
use Rattle.wac_types_base.specs.Entries.{Name}
use Rattle.wac_types_names.specs.Tracks.{before_at, version_of, track_text, key_with, key_from, lookup_key}
use Rattle.wac_composition.specs.Names.{numbers_agree, tracks_agree, has_track}

itself : (a b : ℕ) → ((a == a) && (b == b)) ≡ true
itself a b = and_from (a == a) (b == b) ((Decides-eqb a a).1 refl) ((Decides-eqb b b).1 refl)

by_tests : (x y z : Bool) (s t : List ℕ) (a b : ℕ)
    → is_some (if x then None else if y then Some s else if z then Some t else None)
    ≡ numbers_agree (if x then None else if y then Some (a, 0) else if z then Some (0, b) else None) (if x then None else if y then Some (a, 0) else if z then Some (0, b) else None)
by_tests true y z s t a b = refl
by_tests false true z s t a b = sym (itself a 0)
by_tests false false true s t a b = sym (itself 0 b)
by_tests false false false s t a b = refl

with_text : (front : Name) (p : Parts) (o : Option (List ℕ)) → is_some (key_with front p o) ≡ is_some o
with_text front p None = refl
with_text front p (Some t) = refl

nothing_agrees : (b : Bool) → false ≡ (b && false)
nothing_agrees true = refl
nothing_agrees false = refl

keyed : (front : Name) (o : Option Parts) → is_some (key_from front o) ≡ (bytes_eq front front && tracks_agree o o)
keyed front None = nothing_agrees (bytes_eq front front)
keyed front (Some p) =
    with_text front p (track_text p)
    ∙ by_tests (nat_lt 0 (length p.3)) (nat_lt 0 p.0) (nat_lt 0 p.1) (decimal p.0) (48 ∷ 46 ∷ decimal p.1) p.0 p.1
    ∙ sym (ap (λ b. b && tracks_agree (Some p) (Some p)) ((bytes_eq-Decides front front).1 refl))

pub has_key : (n : Name) → is_some (lookup_key n) ≡ has_track n
unfolding lookup_key
has_key n = keyed (before_at n) (version_of n)
