-- Version tracks: names that differ only in versions that are compatible with one another.
use Rattle.std.specs.Prelude.{◌≡◌, ◌==◌, ◌<◌, ◌^◌, ℕ, List, ◌∷◌, ◌++◌, length, Option, Some, None, Bool, nat_lt, if◌then◌else◌, ◌⊎◌}
use Rattle.std.specs.List.{list_any, before_first, after_first}
use Rattle.std.specs.Result.{result_ok}
use Rattle.std.specs.Fmt.{decimal}
use Rattle.std.specs.Borrow.{Bor}
use Rattle.semver.specs.Identifiers.{parts_of}
use Rattle.semver.specs.declared.Version.{Version}
use Rattle.std.specs.declared.cmp.Ordering.TheVariants as order
use Rattle.semver.specs.Parse.{Parts, version_parts}
use Rattle.wac_types_base.specs.Entries.{Name}
use Rattle.wac_types_names.specs.Versions.{version_cmp}

-- what a text reads to as a version
unfoldable pub read_version : List ℕ → Option Parts
read_version text = result_ok (version_parts text)

abbrev pub is_at : ℕ → Bool
is_at b = b == 64

-- the text before the first `@`
abbrev pub before_at : Name → Name
before_at name = before_first is_at name

-- the version behind the first `@`, if it is one
unfoldable pub version_of : Name → Option Parts
version_of name = if list_any is_at name then read_version (after_first is_at name) else None

-- What names the track of a version: a major number above 0, else `0.` and a minor number above 0. A version with a
-- pre-release is on no track, and neither is one of 0.0.
abbrev pub track_text : Parts → Option (List ℕ)
track_text p =
    if nat_lt 0 (length p.3) then None
    else if nat_lt 0 p.0 then Some (decimal p.0)
    else if nat_lt 0 p.1 then Some (48 ∷ 46 ∷ decimal p.1)
    else None

-- a number from 1 that 64 bits hold, in decimal digits
abbrev pub IsTrackNumber : List ℕ → Type 0
IsTrackNumber t = (n : ℕ) × (0 < n) × (n < 2 ^ 64) × (t ≡ decimal n)

-- The text names a track: it is such a number, or one behind `0.`.
abbrev pub IsTrack : List ℕ → Type 0
IsTrack t = IsTrackNumber t ⊎ ((minor : List ℕ) × IsTrackNumber minor × (t ≡ 48 ∷ 46 ∷ minor))

abbrev pub key_with : Name → Parts → Option (List ℕ) → Option (Name × Parts)
key_with front p None = None
key_with front p (Some t) = Some (front ++ 64 ∷ t, p)

abbrev pub key_from : Name → Option Parts → Option (Name × Parts)
key_from front None = None
key_from front (Some p) = key_with front p (track_text p)

-- the lookup key of a name, `a:b/c@1` for `a:b/c@1.2.3`, with the version
unfoldable pub lookup_key : Name → Option (Name × Parts)
lookup_key name = key_from (before_at name) (version_of name)

-- the name is on the track with this key, at this version
abbrev pub IsOnTrack : Name → Name → Parts → Type 0
IsOnTrack track name p = lookup_key name ≡ Some (track, p)

-- both names are on one track
abbrev pub ShareTrack : Name → Name → Type 0
ShareTrack m n = (track : Name) × (p : Parts) × (q : Parts) × IsOnTrack track m p × IsOnTrack track n q

-- the names are equal or on one track
abbrev pub AreCompatible : Name → Name → Type 0
AreCompatible m n = (m ≡ n) ⊎ ShareTrack m n

-- both names are on one track, where m has a greater version than n
abbrev pub IsLater : Name → Name → Type 0
IsLater m n =
    (track : Name) × (p : Parts) × (q : Parts) × IsOnTrack track m p × IsOnTrack track n q × (version_cmp p q ≡ order.Greater)

-- a key that lies in a name
abbrev pub key_view : Bor Name × Version → Name × Parts
key_view k = (k.0.now, parts_of k.1)
