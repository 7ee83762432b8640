-- Where plugging stops, and what it says then.
use Rattle.std.specs.Prelude.{◌≡◌, ◌≢◌, ◌⊎◌, ◌<◌, ℕ, Bool, true, false, ◌||◌, List, [], ◌∷◌, length, map, take, Option, Some, None, slice_get, string_bytes}
use Rattle.wac_types_base.specs.declared.item.ItemKind.{ItemKind}
use Rattle.wac_types_base.specs.Record.{Collection}
use Rattle.wac_types_base.specs.Entries.{Name, names_of, AreDistinct}
use Rattle.wac_types_base.specs.Graph.{Among}
use Rattle.wac_types_base.specs.Stated.{Stated, stated_in, stated_of, imports_of, exports_of}
use Rattle.wac_types_names.specs.Packaged.{Packaged}
use Rattle.wac_graph_core.specs.declared.ids.PackageId.{PackageId}
use Rattle.wac_graph_core.specs.declared.error.InstantiationArgumentError.{InstantiationArgumentError}
use Rattle.wac_graph_core.specs.declared.error.ExportError.{ExportError}
use Rattle.wac_graph_core.specs.Graph.{Graph, package_of}
use Rattle.wac_types_base.specs.Tree.{Tree}
use Rattle.wac_graph_bytes.specs.Wirings.{Wiring, Same}
use Rattle.wac_graph_core.specs.GraphWiring.{IsWiring}
use Rattle.wac_graph_core.specs.Steps.{Instantiates, Aliases}
use Rattle.wac_graph_core.specs.Refusals.{ArgumentRefused}
use Rattle.wac_graph_core.specs.Exporting.{ExportRefused}
use Rattle.wac_graph_plug.specs.declared.matching.Match.{Match}
use Rattle.wac_graph_plug.specs.declared.error.PlugError.{PlugError}
use Rattle.wac_graph_plug.specs.declared.error.PlugFault.{PlugFault}
use Rattle.wac_graph_plug.specs.Plugging.{AreMatches, AreMatchesOf, Conflict, imports_in}
use Rattle.wac_graph_plug.specs.Steps.{PassesAll, PlugsOne, PlugsEach, ExportsAll}
use Rattle.wac_graph_plug.specs.Wired.{Part, plugged}

-- ---- packages of a graph, as parts

-- where there is none it does not matter which
abbrev pub part_in : Collection → Option Packaged → Part
part_in c None = record { bytes = []; world = stated_in None }
part_in c (Some p) = record { bytes = p.bytes; world = stated_of c (ItemKind.Component p.ty) }

abbrev pub part_of : Graph → PackageId → Part
part_of g id = part_in g.types (package_of g id)

abbrev pub world_of : Graph → PackageId → Stated
world_of g id = (part_of g id).world

abbrev pub worlds_of : Graph → List PackageId → List Stated
worlds_of g ids = map (world_of g) ids

-- ---- stops

-- no more than an alias of this export is made
abbrev pub AliasesAtMost : Graph → Graph → ℕ → Name → Type 0
AliasesAtMost old new i n = (new ≡ old) ⊎ ((k : ℕ) × Aliases old new i n k)

-- a match is not passed
abbrev pub StopsAt : ℕ → ℕ → Match → PlugError → Graph → Graph → Type 0
StopsAt socket plug m (PlugError.GraphError (PlugFault.Argument f)) old new =
    (f ≢ InstantiationArgumentError.Memory) × (k : ℕ) × Aliases old new plug m.export k × ArgumentRefused new socket m.import k f
StopsAt socket plug m (PlugError.GraphError (PlugFault.Export f)) old new = ⊥
StopsAt socket plug m PlugError.NoPlugHappened old new = ⊥
StopsAt socket plug m PlugError.Memory old new = AliasesAtMost old new plug m.export

-- one of these is not passed, and those before it are
pub record StopsPassing (socket plug : ℕ) (ms : List Match) (e : PlugError) (old new : Graph) : Type 0 where
  pub place : ℕ
  pub at : Match
  pub there : slice_get ms place ≡ Some at
  pub middle : Graph
  pub before : PassesAll socket plug (take place ms) old middle
  pub stops : StopsAt socket plug at e middle new

-- a plug is instantiated, and not all of its matches are passed
pub record StopsOne (socket : ℕ) (id : PackageId) (ms : List Match) (e : PlugError) (old new : Graph) : Type 0 where
  pub plug : ℕ
  pub middle : Graph
  pub made : Instantiates old middle id plug
  pub stops : StopsPassing socket plug ms e middle new

-- an export of the socket is not exported
abbrev pub StopsExport : ℕ → Name → PlugError → Graph → Graph → Type 0
StopsExport socket n (PlugError.GraphError (PlugFault.Argument f)) old new = ⊥
StopsExport socket n (PlugError.GraphError (PlugFault.Export f)) old new =
    (f ≢ ExportError.Memory) × (k : ℕ) × Aliases old new socket n k × ExportRefused new n f
StopsExport socket n PlugError.NoPlugHappened old new = ⊥
StopsExport socket n PlugError.Memory old new = AliasesAtMost old new socket n

-- one of these is not exported, and those before it are
pub record StopsExporting (socket : ℕ) (ns : List Name) (e : PlugError) (old new : Graph) : Type 0 where
  pub place : ℕ
  pub at : Name
  pub there : slice_get ns place ≡ Some at
  pub middle : Graph
  pub before : ExportsAll socket (take place ns) old middle
  pub stops : StopsExport socket at e middle new

-- ---- one plug

abbrev pub has_match : List Match → Bool
has_match [] = false
has_match (m ∷ ms) = true

abbrev pub any_match : List (List Match) → Bool
any_match [] = false
any_match (ms ∷ rest) = has_match ms || any_match rest

-- the matches of a plug with a socket
abbrev pub AreMatchesIn : Graph → PackageId → PackageId → List Match → Type 0
AreMatchesIn g socket plug ms = AreMatchesOf (imports_of (world_of g socket)) (exports_of (world_of g plug)) ms

-- the matches of a plug are passed; whether there is one
pub record PlugsMatches (old new : Graph) (socket id : PackageId) (instance : ℕ) (happened : Bool) : Type 0 where
  pub matches : List Match
  pub are : AreMatchesIn old socket id matches
  pub distinct : AreDistinct (names_of (exports_of (world_of old id)))
  pub plugged : PlugsOne instance id matches old new
  pub has : happened ≡ has_match matches

-- not all of them are
pub record StopsMatches (old new : Graph) (socket id : PackageId) (instance : ℕ) (e : PlugError) : Type 0 where
  pub matches : List Match
  pub are : AreMatchesIn old socket id matches
  pub distinct : AreDistinct (names_of (exports_of (world_of old id)))
  pub stops : StopsOne instance id matches e old new

-- a growth is refused before the plug is instantiated, or not all of its matches are passed
abbrev pub StopsPlug : Graph → Graph → PackageId → PackageId → ℕ → PlugError → Type 0
StopsPlug old new socket id instance e =
    ((e ≡ PlugError.Memory) × (new ≡ old)) ⊎ StopsMatches old new socket id instance e

-- ---- each plug

pub record PlugsAll (old new : Graph) (socket : PackageId) (ids : List PackageId) (instance : ℕ) (happened : Bool) : Type 0 where
  pub matches : List (List Match)
  pub are : AreMatches (world_of old socket) (worlds_of old ids) matches
  pub distinct : (id : PackageId) → Among id ids → AreDistinct (names_of (exports_of (world_of old id)))
  pub plugged : PlugsEach instance ids matches old new
  pub has : happened ≡ any_match matches

-- a plug stops, and those before it are plugged
pub record StopsAll (old new : Graph) (socket : PackageId) (ids : List PackageId) (instance : ℕ) (e : PlugError) : Type 0 where
  pub place : ℕ
  pub id : PackageId
  pub there : slice_get ids place ≡ Some id
  pub middle : Graph
  pub happened : Bool
  pub before : PlugsAll old middle socket (take place ids) instance happened
  pub stops : StopsMatches middle new socket id instance e

-- the first so many plugs are plugged, and not all are
pub record PlugsSome (old new : Graph) (socket : PackageId) (ids : List PackageId) (instance : ℕ) : Type 0 where
  pub count : ℕ
  pub fewer : count < length ids
  pub happened : Bool
  pub plugged : PlugsAll old new socket (take count ids) instance happened

-- a growth is refused between two plugs, or a plug stops
abbrev pub StopsEach : Graph → Graph → PackageId → List PackageId → ℕ → PlugError → Type 0
StopsEach old new socket ids instance e =
    ((e ≡ PlugError.Memory) × PlugsSome old new socket ids instance) ⊎ StopsAll old new socket ids instance e

-- ---- the whole

abbrev pub socket_exports : Graph → PackageId → List Name
socket_exports g socket = names_of (exports_of (world_of g socket))

-- the socket is instantiated, the plugs are plugged, at least one with a match, and the socket's exports are exported
pub record Plugs (old new : Graph) (socket : PackageId) (ids : List PackageId) : Type 0 where
  pub instance : ℕ
  pub first : Graph
  pub second : Graph
  pub made : Instantiates old first socket instance
  pub plugged : PlugsAll first second socket ids instance true
  pub exported : ExportsAll instance (socket_exports old socket) second new

-- the socket is instantiated, and no plug has a match
pub record PlugsNone (old new : Graph) (socket : PackageId) (ids : List PackageId) : Type 0 where
  pub instance : ℕ
  pub first : Graph
  pub made : Instantiates old first socket instance
  pub plugged : PlugsAll first new socket ids instance false

-- the socket is instantiated, and a match is not passed
pub record StopsPlugging (old new : Graph) (socket : PackageId) (ids : List PackageId) (e : PlugError) : Type 0 where
  pub instance : ℕ
  pub first : Graph
  pub made : Instantiates old first socket instance
  pub stops : StopsAll first new socket ids instance e

-- the plugs are plugged, and an export of the socket is not exported
pub record StopsAfter (old new : Graph) (socket : PackageId) (ids : List PackageId) (e : PlugError) : Type 0 where
  pub instance : ℕ
  pub first : Graph
  pub second : Graph
  pub made : Instantiates old first socket instance
  pub plugged : PlugsAll first second socket ids instance true
  pub stops : StopsExporting instance (socket_exports old socket) e second new

-- the socket is instantiated, and a growth is refused between two plugs
pub record StopsBetween (old new : Graph) (socket : PackageId) (ids : List PackageId) : Type 0 where
  pub instance : ℕ
  pub first : Graph
  pub made : Instantiates old first socket instance
  pub plugged : PlugsSome first new socket ids instance

-- how far plugging comes where a growth is refused
pub data StopsShort (old new : Graph) (socket : PackageId) (ids : List PackageId) : Type 0 where
  nothing_made : new ≡ old → StopsShort old new socket ids
  between_plugs : StopsBetween old new socket ids → StopsShort old new socket ids
  within_plug : StopsPlugging old new socket ids PlugError.Memory → StopsShort old new socket ids
  within_exports : StopsAfter old new socket ids PlugError.Memory → StopsShort old new socket ids

abbrev pub PlugRefused : Graph → Graph → PackageId → List PackageId → PlugError → Type 0
PlugRefused old new socket ids PlugError.NoPlugHappened = PlugsNone old new socket ids
PlugRefused old new socket ids (PlugError.GraphError (PlugFault.Argument f)) =
    StopsPlugging old new socket ids (PlugError.GraphError (PlugFault.Argument f))
PlugRefused old new socket ids (PlugError.GraphError (PlugFault.Export f)) =
    StopsAfter old new socket ids (PlugError.GraphError (PlugFault.Export f))
PlugRefused old new socket ids PlugError.Memory = StopsShort old new socket ids

-- ---- causes

-- an import got an argument before
abbrev pub IsPassedTwice : InstantiationArgumentError → Name → Type 0
IsPassedTwice (InstantiationArgumentError.NodeIsNotAnInstantiation k) i = ⊥
IsPassedTwice (InstantiationArgumentError.InvalidArgumentName k n p) i = ⊥
IsPassedTwice (InstantiationArgumentError.ArgumentAlreadyPassed k n) i = string_bytes n ≡ i
IsPassedTwice (InstantiationArgumentError.ArgumentTypeMismatch n fault) i = ⊥
IsPassedTwice (InstantiationArgumentError.WouldFormCycle k) i = ⊥
IsPassedTwice InstantiationArgumentError.Memory i = ⊥

-- two matches share an import, which the fault names
pub record MatchedTwice (g : Graph) (socket : PackageId) (ids : List PackageId) (f : InstantiationArgumentError) : Type 0 where
  pub import : Name
  pub twice : IsPassedTwice f import
  -- the matches of so many plugs
  pub count : ℕ
  pub matches : List (List Match)
  pub are : AreMatches (world_of g socket) (worlds_of g (take count ids)) matches
  pub conflict : Conflict matches import

-- no plug has a match
pub record NoneMatches (g : Graph) (socket : PackageId) (ids : List PackageId) : Type 0 where
  pub matches : List (List Match)
  pub are : AreMatches (world_of g socket) (worlds_of g ids) matches
  pub none : any_match matches ≡ false

-- the graph that is left refuses an export of the socket
pub record RefusesExport (old new : Graph) (socket : PackageId) (f : ExportError) : Type 0 where
  pub name : Name
  pub among : Among name (socket_exports old socket)
  pub refused : ExportRefused new name f

abbrev pub PlugCause : Graph → Graph → PackageId → List PackageId → PlugError → Type 0
PlugCause old new socket ids PlugError.NoPlugHappened = NoneMatches old socket ids
PlugCause old new socket ids (PlugError.GraphError (PlugFault.Argument f)) = MatchedTwice old socket ids f
PlugCause old new socket ids (PlugError.GraphError (PlugFault.Export f)) = RefusesExport old new socket f
PlugCause old new socket ids PlugError.Memory = Unit {0}

-- ---- accepted plugs

-- the plugs have matches, no two of which share an import
pub record AreMatched (g : Graph) (socket : PackageId) (ids : List PackageId) : Type 0 where
  pub matches : List (List Match)
  pub are : AreMatches (world_of g socket) (worlds_of g ids) matches
  pub some : any_match matches ≡ true
  pub apart : AreDistinct (imports_in matches)

-- every wiring of the graph is the one that the matches make
pub record IsPlugged (old new : Graph) (socket : PackageId) (ids : List PackageId) : Type 0 where
  pub matched : AreMatched old socket ids
  pub wiring : (spell : Name → Name) (written : ItemKind → Tree) (outers : Name → Option Tree) (W : Wiring ℕ)
      → IsWiring spell written new outers W
      → Same (plugged spell outers (part_of old socket) (map (part_of old) ids) matched.matches) W
