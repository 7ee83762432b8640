-- What stands before nodes are written: outer imports, packages and definitions, and the nodes that each needs.
use Rattle.std.specs.Prelude.{◌≡◌, ◌⊎◌, ℕ, true, false, List, Option, Some, None, IsSome, slice_get}
use Rattle.wac_types_base.specs.declared.ids.WorldId.{WorldId}
use Rattle.wac_types_base.specs.Record.{Collection}
use Rattle.wac_types_base.specs.Entries.{Name, names_of, value_at}
use Rattle.wac_types_base.specs.Graph.{Among}
use Rattle.wac_types_names.specs.Packaged.{Packaged}
use Rattle.wac_graph_core.specs.declared.ids.PackageId.{PackageId}
use Rattle.wac_graph_core.specs.Nodes.{NodeData}
use Rattle.wac_graph_core.specs.Edges.{HasAlias}
use Rattle.wac_graph_core.specs.Walking.{first_argument}
use Rattle.wac_graph_core.specs.Graph.{Graph, ContainsNode, ContainsPackage, instantiated, node_at, package_of}
use Rattle.wac_graph_scopes.specs.declared.imports.SortIndex.{SortIndex}
use Rattle.wac_graph_scopes.specs.Items.{sort_of}
use Rattle.wac_types_parts.specs.Parts.{imports_of}
use Rattle.wac_graph_asks.specs.Reads.{import_name_of, is_definition, package_id_of}
use Rattle.wac_graph_causes.specs.Unwritable.{is_value_at}
use Rattle.wac_graph_encode.specs.declared.root.Root.{Root}
use Rattle.wac_graph_encode.specs.declared.instances.Wired.{Wired}
use Rattle.wac_graph_encode.specs.Writing.{IsNeeded, noted, outer_of}

-- ---- outer imports

abbrev pub HasPlace : List (Name × ℕ) → Name → Type 0
HasPlace places n = IsSome (value_at places n)

-- something stands that is written of the import at the place
abbrev pub IsPlacedAt : List (Option SortIndex) → ℕ → Type 0
IsPlacedAt imports at = (p : SortIndex) × (slice_get imports at ≡ Some (Some p))

abbrev pub ArePlacedAt : List (Option SortIndex) → List (Name × ℕ) → Type 0
ArePlacedAt imports places = (n : Name) (at : ℕ) → value_at places n ≡ Some at → IsPlacedAt imports at

-- the names are kept, with these more
abbrev pub AddsNames : {N : Type 0} → (names old new : List N) → Type 0
AddsNames {N = N} names old new = (n : N) → Among n old ⊎ Among n names → Among n new

-- those under which something stands
abbrev pub HoldsThese : {N V W : Type 0} → List (N × V) → (old new : List (N × W)) → Type 0
HoldsThese those old new = AddsNames (names_of those) (names_of old) (names_of new)

-- ---- what nodes need

-- Under these names stands what the imports of the graph ask, and what its instances ask that have no argument; these are the
-- packages of its instances, and among these nodes are its definitions. No alias is a value.
pub record IsProvided (g : Graph) (stands : Name → Type 0) (ids : List PackageId) (nodes : List ℕ) : Type 0 where
  pub imports : (k : ℕ) (n : Name) → import_name_of (node_at g k) ≡ Some n → stands n
  pub unbound : (k : ℕ) (of : Packaged) (n : Name) → instantiated g k ≡ Some of → Among n (names_of (imports_of g.types of.ty))
      → first_argument g.edges k n ≡ None → stands n
  pub packages : (k : ℕ) (id : PackageId) → package_id_of (node_at g k) ≡ Some id → Among id ids
  pub definitions : (k : ℕ) → is_definition (node_at g k) ≡ true → Among k nodes
  pub values : (i k : ℕ) (n : Name) → HasAlias g.edges i n k → is_value_at g k ≡ false

-- so it is of the root, with these outer imports
abbrev pub IsReadyWith : Graph → (Name → Type 0) → Root → Type 0
IsReadyWith g stands r = IsProvided g stands (names_of r.packages.entries) (names_of r.nodes.entries)

abbrev pub IsReady : Wired → Type 0
IsReady w = IsReadyWith w.graph.now (λ n. IsSome (outer_of w n)) w.root

-- each node that this one needs stands
abbrev pub NeededStand : Wired → ℕ → Type 0
NeededStand w k = (j : ℕ) → IsNeeded w.graph.now j k → Among j (names_of (noted w))

abbrev pub AllStand : Wired → List ℕ → Type 0
AllStand w ks = (k : ℕ) → Among k ks → Among k (names_of (noted w))

abbrev pub AreThere : Graph → List ℕ → Type 0
AreThere g ks = (k : ℕ) → Among k ks → ContainsNode g k

-- each node that this one needs is among them
abbrev pub HasNeeded : Graph → ℕ → List ℕ → Type 0
HasNeeded g k ks = (j : ℕ) → IsNeeded g j k → Among j ks

-- what it is an alias of is added
abbrev pub AddsSource : Graph → ℕ → (old new : List ℕ) → Type 0
AddsSource g k old new = (j : ℕ) → Among j old ⊎ ((n : Name) × HasAlias g.edges j n k) → Among j new

-- ---- arguments

-- under the name stands what is passed: the node that is bound, or else the outer import
abbrev pub StandsBy : (Name → Option SortIndex) → List (ℕ × SortIndex) → Name → Option ℕ → Type 0
StandsBy found nodes n None = IsSome (found n)
StandsBy found nodes n (Some a) = Among a (names_of nodes)

abbrev pub StandsUnder : (Name → Option SortIndex) → List (ℕ × SortIndex) → List (Name × ℕ) → Name → Type 0
StandsUnder found nodes bound n = StandsBy found nodes n (value_at bound n)

-- so it is under the name of each import of the world
abbrev pub AllStandUnder : Collection → WorldId → (Name → Option SortIndex) → List (ℕ × SortIndex) → List (Name × ℕ) → Type 0
AllStandUnder types world found nodes bound =
    (n : Name) → Among n (names_of (imports_of types world)) → StandsUnder found nodes bound n

-- the package is there, and all stands that is passed to an instance of it
pub record CanBePassed (w : Wired) (id : PackageId) (bound : List (Name × ℕ)) : Type 0 where
  pub there : ContainsPackage w.graph.now id
  pub stand : (of : Packaged) → package_of w.graph.now id ≡ Some of
      → AllStandUnder w.graph.now.types of.ty (outer_of w) (noted w) bound

-- ---- aliases

-- the node, where it is one, is of no sort
abbrev pub IsUnsorted : Graph → ℕ → Type 0
IsUnsorted g k = (x : NodeData) → node_at g k ≡ Some x → sort_of x.item_kind ≡ None

-- the node is an alias of an export of a node that stands, and has a sort
pub record CanBeAlias (w : Wired) (k : ℕ) : Type 0 where
  pub one : (i : ℕ) × (n : Name) × HasAlias w.graph.now.edges i n k
  pub stand : (i : ℕ) (n : Name) → HasAlias w.graph.now.edges i n k → Among i (names_of (noted w))
  pub sorted : IsUnsorted w.graph.now k → ⊥
