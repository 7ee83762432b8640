-- Tests of names: version tracks, and names of interfaces.
use Rattle.std.specs.Prelude.{◌==◌, ℕ, Bool, true, false, ◌&&◌, ◌||◌, List, [], ◌∷◌, length, nat_lt, Option, Some, None, bytes_eq, if◌then◌else◌}
use Rattle.std.specs.declared.cmp.Ordering.{Ordering}
use Rattle.semver.specs.Parse.{Parts}
use Rattle.wac_types_base.specs.Entries.{Name}
use Rattle.wac_types_names.specs.Tracks.{before_at, version_of}
use Rattle.wac_types_names.specs.Versions.{version_cmp}

-- What names the track of a version: its major number, or where that is 0 its minor number. A version with a pre-release
-- is on no track, and neither is one of 0.0.
abbrev pub track_number : Parts → Option (ℕ × ℕ)
track_number p =
    if nat_lt 0 (length p.3) then None
    else if nat_lt 0 p.0 then Some (p.0, 0)
    else if nat_lt 0 p.1 then Some (0, p.1)
    else None

abbrev pub numbers_agree : Option (ℕ × ℕ) → Option (ℕ × ℕ) → Bool
numbers_agree (Some a) (Some b) = (a.0 == b.0) && (a.1 == b.1)
numbers_agree _ _ = false

abbrev pub tracks_agree : Option Parts → Option Parts → Bool
tracks_agree (Some p) (Some q) = numbers_agree (track_number p) (track_number q)
tracks_agree _ _ = false

-- two names are on one track
abbrev pub same_track : Name → Name → Bool
same_track m n = bytes_eq (before_at m) (before_at n) && tracks_agree (version_of m) (version_of n)

-- a name is on a track
abbrev pub has_track : Name → Bool
has_track n = same_track n n

-- they are equal or on one track
abbrev pub compatible : Name → Name → Bool
compatible m n = bytes_eq m n || same_track m n

abbrev pub is_greater : Ordering → Bool
is_greater Ordering.Greater = true
is_greater _ = false

abbrev pub later_version : Option Parts → Option Parts → Bool
later_version (Some p) (Some q) = is_greater (version_cmp p q)
later_version _ _ = false

-- m is on the track of n, with a greater version
abbrev pub is_later : Name → Name → Bool
is_later m n = same_track m n && later_version (version_of m) (version_of n)

-- the name of greatest version on the first one's track
abbrev pub greatest : Name → List Name → Name
greatest m [] = m
greatest m (n ∷ ns) = greatest (if is_later n m then n else m) ns
