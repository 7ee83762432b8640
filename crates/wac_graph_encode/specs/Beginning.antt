-- When the root of a component is begun: types and outer imports are written in a scope, and packages are imported or nested
-- behind them.
use Rattle.std.specs.Prelude.{◌≡◌, ℕ, Bool, true, false, List, [], map, Option, Some, Result, OnOk}
use Rattle.wac_types_base.specs.declared.ids.WorldId.{WorldId}
use Rattle.wac_types_base.specs.Entries.{AreDistinct, Name, names_of, value_at}
use Rattle.wac_types_base.specs.Graph.{Among}
use Rattle.wac_types_base.specs.Tree.{Tree}
use Rattle.wac_graph_bytes.specs.Typing.{Worlds, Inside}
use Rattle.wac_graph_core.specs.declared.ids.PackageId.{PackageId}
use Rattle.wac_graph_core.specs.Graph.{Graph}
use Rattle.wac_graph_scopes.specs.declared.imports.SortIndex.{SortIndex}
use Rattle.wac_graph_scopes.specs.declared.imports.ImportScope.{ImportScope}
use Rattle.wac_graph_scopes.specs.Imports.{WritesWorld}
use Rattle.wac_graph_scopes.specs.Roots.{at_root}
use Rattle.wac_graph_encode.specs.declared.declarations.Early.{Early}
use Rattle.wac_graph_encode.specs.declared.root.Root.{Root}
use Rattle.wac_graph_encode.specs.declared.root.Writing.{Writing}
use Rattle.wac_graph_encode.specs.Standing.{StandsAt, IsOuterAt, written_under}
use Rattle.wac_graph_asks.specs.Outers.{IsOuters}
use Rattle.wac_graph_asks.specs.Wirings.{asked_trees}
use Rattle.wac_graph_encode.specs.Defining.{AreEarly, AreToWrite}
use Rattle.wac_graph_encode.specs.Encoding.{nested_at, bytes_of}
use Rattle.wac_graph_encode.specs.Nesting.{IsTold}
use Rattle.wac_graph_encode.specs.Importing.{AreWorldsOf, with_packages}
use Rattle.wac_graph_encode.specs.Writing.{IsBegun}
use Rattle.wac_graph_encode.specs.Ready.{AddsNames, ArePlacedAt}
use Rattle.wac_graph_asks.specs.declared.asks.Definition.{Definition}

abbrev pub AreTold : (define : Bool) → Graph → Worlds → List PackageId → Type 0
AreTold define g w ids = (id : PackageId) → Among id ids → IsTold define g w id

-- where only types and outer imports are written, these stand for nodes, some of which are exported early, and those for the
-- outer imports that are asked
pub record IsRooted (g : Graph) (w : Worlds) (places : List (Name × ℕ)) (i : Inside) (nodes : List (ℕ × SortIndex))
    (early : List (ℕ × Early)) (imports : List (Option SortIndex)) : Type 0 where
  pub nodes_stand : (k : ℕ) (p : SortIndex) → Among (k, p) nodes → StandsAt g w (at_root i []) [] k p
  pub are_early : AreEarly g w i early
  pub outers_stand : (n : Name) (p : SortIndex) → written_under places imports n ≡ Some p → IsOuterAt g w (at_root i []) n p

abbrev pub IsBare : Root → Type 0
IsBare root = (root.entries.items ≡ []) × (root.packages.entries ≡ []) × (root.exported ≡ [])

-- the root is begun, with these outer imports and with the packages
abbrev pub IsBegunWith : Writing → Worlds → List (Name × Tree) → List (Name × ℕ) → Root → Type 0
IsBegunWith x w imports places root =
    IsBegun x.options.now.define_components w (with_packages x.options.now.define_components x.graph.now x.all.types.now
    x.worlds.now.entries imports) places x.graph.now root

-- The root is begun, with the packages behind what is in the scope, where nothing stood at the root but nodes.
abbrev pub Begins : {U E : Type 0} → Writing → ImportScope → Root → Root → Result U E → Type 0
Begins x scope old new r =
    (w : Worlds) (world : WorldId) (imported : List Name) (places : List (Name × ℕ))
    (h : WritesWorld w x.all.types.now [] world scope imported [])
    → IsBare old → AreWorldsOf x.graph.now x.all.types.now x.worlds.now.entries
    → AreTold x.options.now.define_components x.graph.now w (names_of x.worlds.now.entries)
    → IsRooted x.graph.now w places h.writing.inside old.nodes.entries old.early.entries scope.places.items
    → OnOk r (IsBegunWith x w h.writing.inside.imports places new)

-- ---- from a new scope on

-- with these imports, which are what the graph asks, the root is begun
pub record IsBegunRoot (x : Writing) (w : Worlds) (places : List (Name × ℕ)) (root : Root) : Type 0 where
  pub imports : List (Name × Tree)
  pub once : AreDistinct (names_of imports)
  pub asked : (n : Name) → value_at imports n ≡ asked_trees x.graph.now n
  pub begun : IsBegunWith x w imports places root

-- what is to be written: the outer imports of the graph, the packages' worlds, and its definitions in the forms in which they
-- are written
pub record IsToBegin (x : Writing) : Type 0 where
  pub outers : IsOuters x.graph.now x.all.types.now x.all.world x.all.places.now
  pub worlds : AreWorldsOf x.graph.now x.all.types.now x.worlds.now.entries
  pub definitions : AreToWrite x.graph.now x.all.types.now x.definitions.now

-- what is written of the imports is taken to the root, where the nodes are left and the packages have their indexes
pub record HoldsTaken (x : Writing) (scope : ImportScope) (old new : Root) : Type 0 where
  pub imports : new.imports.items ≡ scope.places.items
  pub nodes : new.nodes ≡ old.nodes
  pub packages : AddsNames (names_of x.worlds.now.entries) (names_of old.packages.entries) (names_of new.packages.entries)

-- all outer imports, packages and definitions that are to be written stand at the root
pub record HoldsAll (x : Writing) (root : Root) : Type 0 where
  pub placed : ArePlacedAt root.imports.items x.all.places.now
  pub packages : (id : PackageId) → Among id (names_of x.worlds.now.entries) → Among id (names_of root.packages.entries)
  pub definitions : (d : Definition) → Among d x.definitions.now → Among d.node (names_of root.nodes.entries)

-- what is nested: the packages, or nothing
abbrev pub nested_bytes : (define : Bool) → Graph → List PackageId → List (List ℕ)
nested_bytes true g ids = map (bytes_of g) ids
nested_bytes false g ids = []

abbrev pub NestsThese : {U E : Type 0} → Writing → Root → Root → Result U E → Type 0
NestsThese x old new r = IsBare old
    → OnOk r (nested_at new.entries.items
    ≡ nested_bytes x.options.now.define_components x.graph.now (names_of x.worlds.now.entries))

abbrev pub BeginsRoot : {U E : Type 0} → Writing → Root → Root → Result U E → Type 0
BeginsRoot x old new r = IsToBegin x → IsBare old → (w : Worlds)
    → AreTold x.options.now.define_components x.graph.now w (names_of x.worlds.now.entries)
    → OnOk r (IsBegunRoot x w x.all.places.now new)
