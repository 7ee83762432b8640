-- The words by which asks are joined.
use Rattle.std.specs.Prelude.{ℕ, List, Bool, false, ◌&&◌, Option, Some, None, option_map, bytes_eq, slice_get, slice_set, if◌then◌else◌}
use Rattle.semver.specs.Parse.{Parts}
use Rattle.wac_types_base.specs.Entries.{Name}
use Rattle.wac_types_names.specs.Tracks.{lookup_key}
use Rattle.wac_types_names.specs.Versions.{version_cmp}
use Rattle.wac_composition.specs.Names.{is_greater}
use Rattle.wac_graph_asks.specs.Joining.{label_at}
use Rattle.wac_composition.specs.Asks.{Ask}
use Rattle.wac_composition.specs.Classes.{identifier_asked}

-- the name, its track with the version, and the identifier of an instance under an interface's name
pub record Words : Type 0 where
  pub name : Name
  pub track : Option (Name × Parts)
  pub identifier : Option Name

abbrev pub words_of : {A : Type 0} → Ask A → Words
words_of a = record { name = a.name; track = lookup_key a.name; identifier = identifier_asked a }

-- the first is on the track of the second, at a greater version
abbrev pub is_later_on : Option (Name × Parts) → Option (Name × Parts) → Bool
is_later_on (Some k) (Some m) = bytes_eq k.0 m.0 && is_greater (version_cmp k.1 m.1)
is_later_on _ _ = false

-- ---- the three words

abbrev pub name_word : Words → Option Name
name_word w = Some w.name

abbrev pub track_word : Words → Option Name
track_word w = option_map (λ t. t.0) w.track

abbrev pub identifier_word : Words → Option Name
identifier_word w = w.identifier

-- ---- spelling

-- the track of the words at a place
abbrev pub track_of : Option Words → Option (Name × Parts)
track_of None = None
track_of (Some w) = w.track

-- the place of an ask goes to its class, if the ask is later than the one whose place stands there
abbrev pub respelled : List Words → (best : List ℕ) → (class : ℕ) → Words → (at : ℕ) → List ℕ
respelled ws best class w at =
    if is_later_on w.track (track_of (slice_get ws (label_at best class))) then slice_set best class at else best
