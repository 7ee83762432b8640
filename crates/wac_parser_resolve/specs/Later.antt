-- What stays while a graph grows.
use Rattle.std.specs.Prelude.{◌≡◌, ◌==◌, ℕ, List, [], ◌∷◌, Option, Some, None, IsSome, slice_get, if◌then◌else◌}
use Rattle.wac_types_base.specs.declared.item.ItemKind.{ItemKind}
use Rattle.wac_types_base.specs.Collection.{Stands, KeepsTrees}
use Rattle.wac_types_base.specs.Entries.{Name, value_at}
use Rattle.wac_types_base.specs.Graph.{Among}
use Rattle.wac_types_names.specs.Packaged.{Packaged}
use Rattle.wac_graph_core.specs.declared.ids.PackageId.{PackageId}
use Rattle.wac_graph_core.specs.declared.edge.Edge.{Edge}
use Rattle.wac_graph_core.specs.Edges.{HasAlias, HasArgument}
use Rattle.wac_graph_core.specs.Nodes.{NodeData, Role}
use Rattle.wac_graph_core.specs.NodeMaps.{IsDefinition, IsImport}
use Rattle.wac_graph_core.specs.Graph.{Graph, ContainsNode, ContainsPackage, instantiated, node_at, package_of}

abbrev pub SameNumber : Graph → Graph → Type 0
SameNumber old new = new.types.number ≡ old.types.number

-- the node is there still, the same but for its names
pub record IsStill (g : Graph) (k : ℕ) (x : NodeData) : Type 0 where
  pub node : NodeData
  pub there : node_at g k ≡ Some node
  pub role : node.role ≡ x.role
  pub of : node.of ≡ x.of
  pub item : node.item_kind ≡ x.item_kind

-- the name under which a node is exported first
abbrev pub first_name : List (Name × ℕ) → ℕ → Option Name
first_name [] k = None
first_name (e ∷ es) k = if e.1 == k then Some e.0 else first_name es k

-- what stood stays as it was: stated types, nodes, edges, the nodes of exports, the first name of each, packages
pub record IsAsItWas (old new : Graph) : Type 0 where
  pub trees : KeepsTrees old.types new.types
  pub still : (k : ℕ) (x : NodeData) → node_at old k ≡ Some x → IsStill new k x
  pub edges : (e : Edge) → Among e old.edges → Among e new.edges
  pub exported : (n : Name) (k : ℕ) → value_at old.exports n ≡ Some k → value_at new.exports n ≡ Some k
  pub first : (k : ℕ) (n : Name) → first_name old.exports k ≡ Some n → first_name new.exports k ≡ Some n
  pub held : (id : PackageId) (p : Packaged) → package_of old id ≡ Some p → package_of new id ≡ Some p

unfoldable pub Stays : Graph → Graph → Type 0
Stays old new = IsAsItWas old new

-- what stood before stands after as it was, in a collection of the same number
pub record Later (old new : Graph) : Type 0 where
  pub number : SameNumber old new
  pub kinds : (k : ItemKind) → Stands old.types k → Stands new.types k
  pub nodes : (k : ℕ) → ContainsNode old k → ContainsNode new k
  pub packages : (id : PackageId) → ContainsPackage old id → ContainsPackage new id
  pub stays : Stays old new

-- what expressions do: moreover nothing is imported, defined or exported
pub record Inner (old new : Graph) : Type 0 where
  pub later : Later old new
  pub imports : (k : ℕ) (n : Name) → IsImport new.nodes k n → IsImport old.nodes k n
  pub definitions : (k : ℕ) (item : ItemKind) → IsDefinition new.nodes k item → IsDefinition old.nodes k item
  pub exports : new.exports ≡ old.exports

-- types, packages and exports are the same: an expression that makes no instance adds nodes and edges alone
pub record IsWithin (old new : Graph) : Type 0 where
  pub types : new.types ≡ old.types
  pub places : new.places ≡ old.places

-- no instance, alias or argument is new
pub record AddsNone (old new : Graph) : Type 0 where
  pub instances : (k : ℕ) → IsSome (instantiated new k) → IsSome (instantiated old k)
  pub aliased : (k : ℕ) (x : NodeData) → node_at new k ≡ Some x → x.role ≡ Role.Aliased
      → (y : NodeData) × (node_at old k ≡ Some y) × (y.role ≡ Role.Aliased)
  pub aliases : (i k : ℕ) (n : Name) → HasAlias new.edges i n k → HasAlias old.edges i n k
  pub arguments : (i a : ℕ) (n : Name) → HasArgument new.edges i n a → HasArgument old.edges i n a

-- each keeps its number
abbrev pub IsMore : List ℕ → List ℕ → Type 0
IsMore ms ns = (i k : ℕ) → slice_get ms i ≡ Some k → slice_get ns i ≡ Some k
