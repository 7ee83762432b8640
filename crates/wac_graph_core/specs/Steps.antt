-- What each call does to a graph. Edges are read as a set.
use Rattle.std.specs.Prelude.{◌≡◌, ◌≢◌, ◌⊎◌, ℕ, List, [], ◌∷◌, Some, None}
use Rattle.std.specs.FinMap as map
use Rattle.wac_types_base.specs.declared.item.ItemKind.{ItemKind}
use Rattle.wac_types_base.specs.Entries.{Name}
use Rattle.wac_types_base.specs.Graph.{Among}
use Rattle.wac_types_names.specs.Packaged.{Packaged}
use Rattle.wac_types_base.specs.Tree.{tree}
use Rattle.wac_types_base.specs.Fits.{Fits}
use Rattle.wac_types_fit.specs.Trees.{tree_in}
use Rattle.wac_names.specs.ComponentNames.{IsName}
use Rattle.wac_names.specs.declared.names.NameKind.{NameKind}
use Rattle.wac_graph_core.specs.declared.ids.PackageId.{PackageId}
use Rattle.wac_graph_core.specs.declared.edge.Edge.{Edge}
use Rattle.wac_graph_core.specs.declared.edge.Follow.{Follow}
use Rattle.wac_graph_core.specs.Nodes.{NodeData, Role, plain_node}
use Rattle.wac_graph_core.specs.NodeMaps.{NoImport, AreBelow}
use Rattle.wac_graph_core.specs.Edges.{AreEdges, HasAlias, HasArgument, alias_edge, argument_edge, Reaches}
use Rattle.wac_graph_core.specs.Graph.{Graph, node_at, package_of, IsExport, IsArgument, passed}

-- the text is the name of an import or an export
abbrev pub IsExternName : Name → Type 0
IsExternName n = (k : NameKind) × IsName k n

abbrev pub with_node : Graph → ℕ → NodeData → Graph
with_node g k n = record g { nodes = map.insert g.nodes k n }

abbrev pub with_edges : Graph → List Edge → Graph
with_edges g es = record g { edges = es }

-- exactly one edge more
abbrev pub AddsEdge : List Edge → List Edge → Edge → Type 0
AddsEdge old new e = AreEdges new (λ d. Among d old ⊎ (d ≡ e))

-- ---- nodes

-- an import of this name
pub record Imports (old new : Graph) (n : Name) (kind : ItemKind) (k : ℕ) : Type 0 where
  pub none : NoImport old.nodes n
  pub valid : IsExternName n
  pub above : AreBelow old.nodes k
  pub free : node_at old k ≡ None
  pub made : new ≡ with_node old k (plain_node (Role.Imported n) None kind)

-- an instance of the package
pub record Instantiates (old new : Graph) (id : PackageId) (k : ℕ) : Type 0 where
  pub of : Packaged
  pub is : package_of old id ≡ Some of
  pub above : AreBelow old.nodes k
  pub free : node_at old k ≡ None
  pub made : new ≡ with_node old k (plain_node Role.Instance (Some id) (ItemKind.Instance of.instance_type))

-- an alias that was there is answered again
pub record AliasesAgain (old new : Graph) (i : ℕ) (n : Name) (k : ℕ) : Type 0 where
  pub there : HasAlias old.edges i n k
  pub same : new ≡ old

-- an alias is made
pub record AliasesAnew (old new : Graph) (i : ℕ) (n : Name) (k : ℕ) : Type 0 where
  pub none : (j : ℕ) → HasAlias old.edges i n j → ⊥
  pub item : ItemKind
  pub export : IsExport old i n item
  pub above : AreBelow old.nodes k
  pub free : node_at old k ≡ None
  pub edges : AddsEdge old.edges new.edges (alias_edge i k n)
  pub made : new ≡ with_edges (with_node old k (plain_node Role.Aliased None item)) new.edges

abbrev pub Aliases : Graph → Graph → ℕ → Name → ℕ → Type 0
Aliases old new i n k = AliasesAgain old new i n k ⊎ AliasesAnew old new i n k

-- where an alias is made twice, it is one node, and the second call changes nothing
abbrev pub IsOneAlias : Graph → Graph → Graph → ℕ → Name → ℕ → ℕ → Type 0
IsOneAlias old mid new i n k j = Aliases old mid i n k → Aliases mid new i n j → (j ≡ k) × (new ≡ mid)

-- ---- arguments

-- the node, as it is passed, fits
pub record NodeFits (g : Graph) (a : ℕ) (item : ItemKind) : Type 0 where
  pub node : NodeData
  pub there : node_at g a ≡ Some node
  pub fits : Fits (tree (passed g.types node)) (tree_in g.types item)

-- the same argument stands, and nothing is changed
pub record KeepsArgument (old new : Graph) (i : ℕ) (n : Name) (a : ℕ) : Type 0 where
  pub there : HasArgument old.edges i n a
  pub same : new ≡ old

-- an argument is passed
pub record AddsArgument (old new : Graph) (i : ℕ) (n : Name) (a : ℕ) (item : ItemKind) : Type 0 where
  pub none : (b : ℕ) → HasArgument old.edges i n b → ⊥
  pub fits : NodeFits old a item
  pub apart : Reaches Follow.Flow old.edges (i ∷ []) a → ⊥
  pub edges : AddsEdge old.edges new.edges (argument_edge a i n)
  pub made : new ≡ with_edges old new.edges

pub record SetsArgument (old new : Graph) (i : ℕ) (n : Name) (a : ℕ) : Type 0 where
  pub item : ItemKind
  pub is : IsArgument old i n item
  pub step : KeepsArgument old new i n a ⊎ AddsArgument old new i n a item

-- the edge of the argument is away
pub record UnsetsArgument (old new : Graph) (i : ℕ) (n : Name) (a : ℕ) : Type 0 where
  pub item : ItemKind
  pub is : IsArgument old i n item
  pub edges : AreEdges new.edges (λ d. Among d old.edges × (d ≢ argument_edge a i n))
  pub made : new ≡ with_edges old new.edges

-- the same graph, its edges read as a set
abbrev pub IsSameGraph : Graph → Graph → Type 0
IsSameGraph old new = (new ≡ with_edges old new.edges) × AreEdges new.edges (λ d. Among d old.edges)

-- where an argument is added and then unset, the graph is that from before
abbrev pub UnsetsAdded : Graph → Graph → Graph → ℕ → Name → ℕ → ItemKind → Type 0
UnsetsAdded old mid new i n a item = AddsArgument old mid i n a item → UnsetsArgument mid new i n a → IsSameGraph old new
