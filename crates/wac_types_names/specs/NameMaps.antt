-- Maps from names: what one gives for a name, and what contracts see of one.
use Rattle.std.specs.Prelude.{◌≡◌, List, [], ◌∷◌, map, Option, Some, None, ◌↔◌, ◌≢◌, Bool, true, if◌then◌else◌}
use Rattle.wac_types_base.specs.Entries.{Name, IsNew, names_of}
use Rattle.wac_types_base.specs.Graph.{Among}
use Rattle.wac_types_names.specs.Tracks.{ShareTrack, IsLater, IsOnTrack}
use Rattle.wac_types_names.specs.Versions.{version_cmp}
use Rattle.std.specs.declared.cmp.Ordering.TheVariants as order
use Rattle.semver.specs.Parse.{Parts}

-- the name stands in the map on the track of the one asked, and no name there has a greater version
pub record IsLatest {V : Type 0} (es : List (Name × V)) (asked : Name) (found : Name) : Type 0 where
  pub track : ShareTrack asked found
  pub latest : (other : Name) → Among other (names_of es) → ShareTrack asked other → IsLater other found → ⊥

-- What a map from names gives for a name: the exact definition, else the one with the greatest version on the name's
-- track, else none.
pub data Gives {V : Type 0} (es : List (Name × V)) (asked : Name) : Option V → Type 0 where
  exactly : {v : V} → Among (asked, v) es → Gives es asked (Some v)
  on_track : {v : V} (found : Name) → IsNew asked es → Among (found, v) es → IsLatest es asked found → Gives es asked (Some v)
  nothing : IsNew asked es → ((n : Name) → Among n (names_of es) → ShareTrack asked n → ⊥) → Gives es asked None

-- the same entries, in whatever order
abbrev pub SameEntries : {V : Type 0} → List (Name × V) → List (Name × V) → Type 0
SameEntries {V} es fs = (e : Name × V) → Among e es ↔ Among e fs

-- a name with its key and its value
abbrev pub Entry : Type 0 → Type 0 → Type 0
Entry K V = Name × K × V

-- the values by name, in order of insertion
abbrev pub by_name : {K V : Type 0} → List (Entry K V) → List (Name × V)
by_name es = map (λ e. (e.0, e.2)) es

-- the values by key, in order of insertion
abbrev pub by_key : {K V : Type 0} → List (Entry K V) → List (K × V)
by_key es = map (λ e. (e.1, e.2)) es

-- each key in the map is that of its name, by what an interner's keys stand for
abbrev pub KnowsKeys : {K V : Type 0} → (K → Option Name) → List (Entry K V) → Type 0
KnowsKeys text [] = Unit {0}
KnowsKeys text (e ∷ es) = (text e.1 ≡ Some e.0) × KnowsKeys text es

-- keys that stand for one text are equal
abbrev pub HasOneKey : {K : Type 0} → (K → K → Bool) → (K → Option Name) → Type 0
HasOneKey {K} eq text = (k l : K) (t : Name) → text k ≡ Some t → text l ≡ Some t → eq k l ≡ true

-- each key that stood for a text still stands for it
abbrev pub KeysLast : {K : Type 0} → (K → Option Name) → (K → Option Name) → Type 0
KeysLast {K} old new = (k : K) (t : Name) → old k ≡ Some t → new k ≡ Some t

-- the value of an entry is another, under the same name and key
abbrev pub with_value : {K V : Type 0} → Entry K V → V → Entry K V
with_value e v = (e.0, e.1, v)

-- the first entry with an equal key has the value
abbrev pub put_value : {K V : Type 0} → (K → K → Bool) → List (Entry K V) → K → V → List (Entry K V)
put_value eq [] k v = []
put_value eq (e ∷ es) k v = if eq k e.1 then with_value e v ∷ es else e ∷ put_value eq es k v

-- The value with the greatest version on a track, if a name there is on it.
pub data IsLatestOn {V : Type 0} (es : List (Name × V)) (track : Name) : Option V → Type 0 where
  the_latest : {v : V} (found : Name) (p : Parts) → Among (found, v) es → IsOnTrack track found p
      → ((other : Name) (q : Parts) → Among other (names_of es) → IsOnTrack track other q → version_cmp q p ≢ order.Greater)
      → IsLatestOn es track (Some v)
  no_latest : ((n : Name) (p : Parts) → Among n (names_of es) → IsOnTrack track n p → ⊥) → IsLatestOn es track None

-- the value of the name itself, if the name is there
abbrev pub IsExact : {V : Type 0} → List (Name × V) → Name → Option V → Type 0
IsExact es n None = IsNew n es
IsExact es n (Some v) = Among (n, v) es
