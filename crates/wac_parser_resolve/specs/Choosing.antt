-- Which version a `new` means that names a version track: the greatest on it of those that are handed in.
use Rattle.std.specs.Prelude.{◌≢◌, List, [], ◌∷◌, ◌++◌, Bool, false, Option, Some, None, bytes_eq, if◌then◌else◌}
use Rattle.std.specs.Ordering.{is_gt}
use Rattle.std.specs.declared.cmp.Ordering.TheVariants as order
use Rattle.semver.specs.Parse.{Parts}
use Rattle.wac_types_base.specs.Entries.{Name}
use Rattle.wac_types_base.specs.Graph.{Among}
use Rattle.wac_types_names.specs.Keys.{Key, key_text}
use Rattle.wac_types_names.specs.Tracks.{IsOnTrack, lookup_key}
use Rattle.wac_types_names.specs.Versions.{version_cmp}

-- a track's lookup key is this one, as `a:b@1`
abbrev pub is_key : Name → Option (Name × Parts) → Bool
is_key track None = false
is_key track (Some k) = bytes_eq k.0 track

-- the version of a key, where the key's text is on the track
abbrev pub version_on : Name → Key → Option Parts
version_on track k = if is_key track (lookup_key (key_text k)) then k.1 else None

-- the greater of the one so far and the next
abbrev pub later : Option Parts → Option Parts → Option Parts
later best None = best
later None (Some v) = Some v
later (Some b) (Some v) = if is_gt (version_cmp v b) then Some v else Some b

abbrev pub greatest_from : Name → Option Parts → List Key → Option Parts
greatest_from track best [] = best
greatest_from track best (k ∷ ks) = greatest_from track (later best (version_on track k)) ks

-- the lookup key of a package's track
abbrev pub track_key : Name → Name → Name
track_key n track = n ++ 64 ∷ track

-- the greatest version of a package on a track
abbrev pub greatest_on : List Key → Name → Name → Option Parts
greatest_on ks n track = greatest_from (track_key n track) None ks

-- ---- what that is

-- a package of this name and version is there, on the track
pub record IsThere (ks : List Key) (n track : Name) (v : Parts) : Type 0 where
  pub among : Among (n, Some v) ks
  pub read : Parts
  pub on : IsOnTrack (track_key n track) (key_text (n, Some v)) read

-- a version that is there, and none there is greater; or none is there
abbrev pub IsGreatest : List Key → Name → Name → Option Parts → Type 0
IsGreatest ks n track None = (v : Parts) → IsThere ks n track v → ⊥
IsGreatest ks n track (Some v) =
    IsThere ks n track v × ((w : Parts) → IsThere ks n track w → version_cmp w v ≢ order.Greater)

abbrev pub Choices_are_greatest : Type 0
Choices_are_greatest = (ks : List Key) (n track : Name) → IsGreatest ks n track (greatest_on ks n track)
