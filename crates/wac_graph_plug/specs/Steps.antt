-- What plugging does to a graph, step by step, and where it stops.
use Rattle.std.specs.Prelude.{◌≡◌, ◌≢◌, ◌⊎◌, ℕ, List, [], ◌∷◌, ◌++◌, Some, None}
use Rattle.wac_types_base.specs.declared.item.ItemKind.{ItemKind}
use Rattle.wac_types_base.specs.Entries.{Name}
use Rattle.wac_types_base.specs.Graph.{Among}
use Rattle.wac_graph_core.specs.declared.ids.PackageId.{PackageId}
use Rattle.wac_graph_core.specs.declared.edge.Edge.{Edge}
use Rattle.wac_graph_core.specs.Nodes.{NodeData}
use Rattle.wac_graph_core.specs.Graph.{Graph, node_at, IsExport}
use Rattle.wac_graph_core.specs.Steps.{Instantiates, Aliases, SetsArgument}
use Rattle.wac_graph_core.specs.Exporting.{Exports}
use Rattle.wac_graph_plug.specs.declared.matching.Match.{Match}

abbrev pub HasNoNodes : Graph → Type 0
HasNoNodes g = (k : ℕ) → node_at g k ≡ None

-- the node is still there, but for the name that it is exported under
pub record StaysNode (g : Graph) (k : ℕ) (x : NodeData) : Type 0 where
  pub node : NodeData
  pub there : node_at g k ≡ Some node
  pub role : node.role ≡ x.role
  pub of : node.of ≡ x.of
  pub item : node.item_kind ≡ x.item_kind
  pub name : node.name ≡ x.name

-- nothing is taken away: types and packages are the same, nodes, edges and exports may be added
pub record Grown (old new : Graph) : Type 0 where
  pub types : new.types ≡ old.types
  pub places : new.places ≡ old.places
  pub nodes : (k : ℕ) (x : NodeData) → node_at old k ≡ Some x → StaysNode new k x
  pub edges : (e : Edge) → Among e old.edges → Among e new.edges
  pub exports : (more : List (Name × ℕ)) × (new.exports ≡ old.exports ++ more)

abbrev pub HasExport : Graph → ℕ → Name → Type 0
HasExport g k n = (item : ItemKind) × IsExport g k n item

-- an export of a plug's instance is passed to the import that it is for
pub record Passes (socket plug : ℕ) (m : Match) (old new : Graph) : Type 0 where
  pub alias : ℕ
  pub middle : Graph
  pub aliased : Aliases old middle plug m.export alias
  pub set : SetsArgument middle new socket m.import alias

-- each of these is passed, in turn
pub data PassesAll (socket plug : ℕ) : List Match → Graph → Graph → Type 0 where
  passed_none : {g : Graph} → PassesAll socket plug [] g g
  passed_next : {ms : List Match} {m : Match} {f g h : Graph} → PassesAll socket plug ms f g → Passes socket plug m g h
      → PassesAll socket plug (ms ++ m ∷ []) f h

-- a plug with a match is instantiated, and its matches are passed
pub record PlugsIn (socket : ℕ) (id : PackageId) (ms : List Match) (old new : Graph) : Type 0 where
  pub some : ms ≢ []
  pub plug : ℕ
  pub middle : Graph
  pub made : Instantiates old middle id plug
  pub passed : PassesAll socket plug ms middle new

-- one without a match stays out
abbrev pub PlugsOne : ℕ → PackageId → List Match → Graph → Graph → Type 0
PlugsOne socket id ms old new = ((ms ≡ []) × (new ≡ old)) ⊎ PlugsIn socket id ms old new

-- each of these, in turn
pub data PlugsEach (socket : ℕ) : List PackageId → List (List Match) → Graph → Graph → Type 0 where
  plugged_none : {g : Graph} → PlugsEach socket [] [] g g
  plugged_next : {ids : List PackageId} {id : PackageId} {mss : List (List Match)} {ms : List Match} {f g h : Graph}
      → PlugsEach socket ids mss f g → PlugsOne socket id ms g h → PlugsEach socket (ids ++ id ∷ []) (mss ++ ms ∷ []) f h

-- an export of the socket is exported under its name
pub record ExportsOne (socket : ℕ) (n : Name) (old new : Graph) : Type 0 where
  pub alias : ℕ
  pub middle : Graph
  pub aliased : Aliases old middle socket n alias
  pub exported : Exports middle new alias n

-- each of these, in turn
pub data ExportsAll (socket : ℕ) : List Name → Graph → Graph → Type 0 where
  exported_none : {g : Graph} → ExportsAll socket [] g g
  exported_next : {ns : List Name} {n : Name} {f g h : Graph} → ExportsAll socket ns f g → ExportsOne socket n g h
      → ExportsAll socket (ns ++ n ∷ []) f h
