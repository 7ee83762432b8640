-- The names of a map as it keeps them, each with its track.
use Rattle.std.specs.Prelude.{◌≡◌, ◌≢◌, ◌<◌, ◌==◌, ℕ, List, [], ◌∷◌, length, Option, Some, None, slice_get, if◌then◌else◌}
use Rattle.std.specs.Option.{option_map}
use Rattle.std.specs.List.{AllByRecursion}
use Rattle.std.specs.Ordering.{is_gt}
use Rattle.std.specs.Borrow.{Bor}
use Rattle.std.specs.Cmp.Lexicographic.{pointwise}
use Rattle.std.specs.declared.cmp.Ordering.TheVariants as order
use Rattle.semver.specs.Parse.{Parts}
use Rattle.semver.specs.Identifiers.{parts_of}
use Rattle.semver.specs.declared.Version.{Version}
use Rattle.wac_types_base.specs.Entries.{Name}
use Rattle.wac_types_names.specs.declared.spelling.Spelling.{Spelling}
use Rattle.wac_types_names.specs.declared.spelling.Track.{Track}
use Rattle.wac_types_names.specs.Versions.{version_cmp}
use Rattle.wac_types_names.specs.Tracks.{lookup_key}
use Rattle.wac_types_names.specs.NameMaps.{Entry}

-- the key and the version of a track that is kept
abbrev pub track_view : Track → Name × Parts
track_view t = (t.key, parts_of t.version)

-- the track that is kept with a name
abbrev pub kept_track : Spelling → Option (Name × Parts)
kept_track s = option_map track_view s.track

-- the track is that of the name
abbrev pub IsRead : Spelling → Type 0
IsRead s = kept_track s ≡ lookup_key s.name

-- the entries, each with its name
abbrev pub entries_with : {K V : Type 0} → List Spelling → List (K × V) → List (Entry K V)
entries_with [] es = []
entries_with (s ∷ ss) [] = []
entries_with (s ∷ ss) (e ∷ es) = (s.name, e.0, e.1) ∷ entries_with ss es

-- one name for each entry, each with its track
pub record IsKept {K V : Type 0} (ss : List Spelling) (es : List (K × V)) : Type 0 where
  pub lengths : length ss ≡ length es
  pub read : AllByRecursion IsRead ss

-- the version of what is kept, where it is on this track
abbrev pub version_on : Name → Option (Name × Parts) → Option Parts
version_on key None = None
version_on key (Some t) = if pointwise ◌==◌ t.0 key then Some t.1 else None

-- a place with its version, the later of the one so far and the next
abbrev pub later_of : Option (ℕ × Parts) → ℕ → Option Parts → Option (ℕ × Parts)
later_of best at None = best
later_of None at (Some p) = Some (at, p)
later_of (Some b) at (Some p) = if is_gt (version_cmp p b.1) then Some (at, p) else Some b

abbrev pub place_view : Option (ℕ × Bor Version) → Option (ℕ × Parts)
place_view None = None
place_view (Some b) = Some (b.0, parts_of b.1.now)

-- among the first n, the place with the greatest version on the track, if there is one
abbrev pub IsBest : List (Option (Name × Parts)) → Name → ℕ → Option (ℕ × Parts) → Type 0
IsBest ts key n None = (i : ℕ) (p : Parts) → i < n → slice_get ts i ≡ Some (Some (key, p)) → ⊥
IsBest ts key n (Some b) =
    (slice_get ts b.0 ≡ Some (Some (key, b.1)))
    × ((i : ℕ) (p : Parts) → i < n → slice_get ts i ≡ Some (Some (key, p)) → version_cmp p b.1 ≢ order.Greater)

-- a place of the best
abbrev pub IsBestPlace : List (Option (Name × Parts)) → Name → Option ℕ → Type 0
IsBestPlace ts key None = IsBest ts key (length ts) None
IsBestPlace ts key (Some i) = (p : Parts) × IsBest ts key (length ts) (Some (i, p))
