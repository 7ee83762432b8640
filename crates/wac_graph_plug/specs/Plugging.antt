-- Plugging: which exports of plugs are for which imports of a socket.
use Rattle.std.specs.Prelude.{◌≡◌, ◌⊎◌, List, [], ◌∷◌, map, Some}
use Rattle.std.specs.List.{flat_map}
use Rattle.wac_types_base.specs.declared.ids.WorldId.{WorldId}
use Rattle.wac_types_base.specs.Record.{Collection}
use Rattle.wac_types_base.specs.Entries.{Name, names_of, value_at}
use Rattle.wac_types_base.specs.Graph.{Among}
use Rattle.wac_types_base.specs.Stated.{Stated, imports_of, exports_of, stated_world}
use Rattle.wac_types_base.specs.Tree.{tree}
use Rattle.wac_types_base.specs.Fits.{Fits}
use Rattle.wac_types_names.specs.Tracks.{ShareTrack}
use Rattle.wac_graph_plug.specs.declared.matching.Match.{Match}

-- no import has the name, and this is the only one on its track
pub record IsAloneOnTrack (imports : List Name) (e i : Name) : Type 0 where
  pub none : Among e imports → ⊥
  pub there : Among i imports
  pub shares : ShareTrack e i
  pub alone : (j : Name) → Among j imports → ShareTrack e j → j ≡ i

-- the import that the name of an export finds
abbrev pub Finds : List Name → Name → Name → Type 0
Finds imports e i = ((i ≡ e) × Among e imports) ⊎ IsAloneOnTrack imports e i

-- an export of this name and type is for the import i
pub record Matches (imports : List (Name × Stated)) (e : Name) (given : Stated) (i : Name) : Type 0 where
  pub finds : Finds (names_of imports) e i
  pub asked : Stated
  pub is : value_at imports i ≡ Some asked
  pub fits : Fits (tree given) (tree asked)

-- the matches of these exports, in their order
pub data AreMatchesOf (imports : List (Name × Stated)) : List (Name × Stated) → List Match → Type 0 where
  no_exports : AreMatchesOf imports [] []
  matched : (e i : Name) (given : Stated) {es : List (Name × Stated)} {ms : List Match} → Matches imports e given i
      → AreMatchesOf imports es ms → AreMatchesOf imports ((e, given) ∷ es) (record { export = e; import = i } ∷ ms)
  passed : (e : Name) (given : Stated) {es : List (Name × Stated)} {ms : List Match}
      → ((i : Name) → Matches imports e given i → ⊥) → AreMatchesOf imports es ms → AreMatchesOf imports ((e, given) ∷ es) ms

-- the matches of the plug's exports with the socket's imports, by their worlds
abbrev pub AreWorldMatches : Collection → WorldId → WorldId → List Match → Type 0
AreWorldMatches c socket plug ms = AreMatchesOf (imports_of (stated_world c socket)) (exports_of (stated_world c plug)) ms

-- the matches of each plug, in turn, by the worlds
pub data AreMatches (socket : Stated) : List Stated → List (List Match) → Type 0 where
  no_plugs : AreMatches socket [] []
  next_plug : {plug : Stated} {plugs : List Stated} {ms : List Match} {rest : List (List Match)}
      → AreMatchesOf (imports_of socket) (exports_of plug) ms → AreMatches socket plugs rest
      → AreMatches socket (plug ∷ plugs) (ms ∷ rest)

-- the imports that are matched, once for each match
abbrev pub imports_in : List (List Match) → List Name
imports_in mss = flat_map (map (λ (m : Match). m.import)) mss

-- a name stands twice
abbrev pub IsTwice : Name → List Name → Type 0
IsTwice n [] = ⊥
IsTwice n (m ∷ ms) = ((n ≡ m) × Among n ms) ⊎ IsTwice n ms

-- two matches share this import
abbrev pub Conflict : List (List Match) → Name → Type 0
Conflict mss i = IsTwice i (imports_in mss)
