-- A graph as a value, and what holds of each.
use Rattle.std.specs.Prelude.{◌≡◌, ◌<◌, ℕ, List, [], Bool, true, false, Option, Some, None, IsSome, slice_get, ◌==◌, if◌then◌else◌}
use Rattle.std.specs.FinMap as map
use Rattle.wac_types_base.specs.declared.item.ItemKind.{ItemKind}
use Rattle.wac_types_base.specs.declared.ids.WorldId.{WorldId}
use Rattle.wac_types_base.specs.declared.defined.Interface.{Interface}
use Rattle.wac_types_base.specs.declared.defined.World.{World}
use Rattle.wac_types_base.specs.Record.{Collection}
use Rattle.wac_types_base.specs.Collection.{Stands}
use Rattle.wac_types_base.specs.Stated.{Stated, stated_of, instance_type, imports_of, exports_of}
use Rattle.wac_types_base.specs.Tree.{tree}
use Rattle.wac_types_base.specs.Fits.{Fits}
use Rattle.wac_types_written.specs.Written.{written_definition}
use Rattle.wac_types_base.specs.Entries.{Name, value_at, names_of, AreDistinct}
use Rattle.wac_types_base.specs.Graph.{Among}
use Rattle.wac_types_names.specs.Packaged.{Packaged}
use Rattle.wac_types_names.specs.Keys.{package_key}
use Rattle.wac_graph_core.specs.declared.ids.PackageId.{PackageId}
use Rattle.wac_graph_core.specs.declared.edge.Edge.{Edge}
use Rattle.wac_graph_core.specs.declared.edge.Label.{Label}
use Rattle.wac_graph_core.specs.declared.package.Place.{Place}
use Rattle.wac_graph_core.specs.Nodes.{NodeData, Role, IsDefinedType}
use Rattle.wac_graph_core.specs.NodeMaps.{NodeMap, AreOnce}
use Rattle.wac_graph_core.specs.Edges.{IsAcyclic, AreKeyed, HasAlias}

pub record Graph : Type 0 where
  pub types : Collection
  -- by index
  pub nodes : NodeMap
  -- a set
  pub edges : List Edge
  -- in order
  pub exports : List (Name × ℕ)
  pub places : List Place

-- a graph with nothing in it
abbrev pub with_types : Collection → Graph
with_types c = record { types = c; nodes = map.empty; edges = []; exports = []; places = [] }

abbrev pub node_at : Graph → ℕ → Option NodeData
node_at g k = map.get g.nodes k

abbrev pub ContainsNode : Graph → ℕ → Type 0
ContainsNode g k = IsSome (node_at g k)

-- ---- packages

-- what a place holds, if it is of this generation
abbrev pub held_at : Option Place → ℕ → Option Packaged
held_at None n = None
held_at (Some p) n = if p.generation == n then p.held else None

abbrev pub package_in : List Place → PackageId → Option Packaged
package_in ps id = held_at (slice_get ps id.place) id.generation

-- the package of an id
abbrev pub package_of : Graph → PackageId → Option Packaged
package_of g id = package_in g.places id

abbrev pub ContainsPackage : Graph → PackageId → Type 0
ContainsPackage g id = IsSome (package_of g id)

-- its world and the interface of its instances stand, and that has the world's uses and exports
pub record PackageStands (c : Collection) (p : Packaged) : Type 0 where
  pub world : Stands c (ItemKind.Component p.ty)
  pub instance : Stands c (ItemKind.Instance p.instance_type)
  pub exports : stated_of c (ItemKind.Instance p.instance_type) ≡ instance_type (stated_of c (ItemKind.Component p.ty))

-- ---- items

abbrev pub is_instance : ItemKind → Bool
is_instance (ItemKind.Instance i) = true
is_instance k = false

abbrev pub exported_in : Option Interface → Name → Option ItemKind
exported_in None n = None
exported_in (Some i) n = value_at i.exports n

-- an export of an instance
abbrev pub item_export : Collection → ItemKind → Name → Option ItemKind
item_export c (ItemKind.Instance i) n = exported_in (slice_get c.interfaces i.index) n
item_export c k n = None

abbrev pub imported_in : Option World → Name → Option ItemKind
imported_in None n = None
imported_in (Some w) n = value_at w.imports n

-- an import of a world
abbrev pub item_import : Collection → WorldId → Name → Option ItemKind
item_import c w n = imported_in (slice_get c.worlds w.index) n

-- the node's item is so
pub record IsOfKind (g : Graph) (k : ℕ) (P : ItemKind → Type 0) : Type 0 where
  pub node : NodeData
  pub there : node_at g k ≡ Some node
  pub kind : P node.item_kind

-- the node has this export, of this kind
abbrev pub IsExport : Graph → ℕ → Name → ItemKind → Type 0
IsExport g k n item = IsOfKind g k (λ x. item_export g.types x n ≡ Some item)

abbrev pub package_if : Graph → Option PackageId → Option Packaged
package_if g None = None
package_if g (Some id) = package_of g id

abbrev pub package_made : Graph → Option NodeData → Option Packaged
package_made g None = None
package_made g (Some n) = package_if g n.of

-- the package that a node is an instance of
abbrev pub instantiated : Graph → ℕ → Option Packaged
instantiated g k = package_made g (node_at g k)

-- the node is an instance of a package that has this import
pub record IsArgument (g : Graph) (i : ℕ) (n : Name) (item : ItemKind) : Type 0 where
  pub of : Packaged
  pub is : instantiated g i ≡ Some of
  pub import : item_import g.types of.ty n ≡ Some item

-- the node is an instance with this export, of the stated type of this kind
abbrev pub IsStatedExport : Graph → ℕ → Name → ItemKind → Type 0
IsStatedExport g k n item =
    IsOfKind g k (λ x. (is_instance x ≡ true) × (value_at (exports_of (stated_of g.types x)) n ≡ Some (stated_of g.types item)))

-- the node is an instance of a package that has this import, with the stated type of this kind
pub record IsStatedImport (g : Graph) (i : ℕ) (n : Name) (item : ItemKind) : Type 0 where
  pub of : Packaged
  pub is : instantiated g i ≡ Some of
  pub import : value_at (imports_of (stated_of g.types (ItemKind.Component of.ty))) n ≡ Some (stated_of g.types item)

-- ---- what holds of each graph

-- a node's item stands, and its package where it is an instance of one: then its item is of the interface of the package's
-- instances
pub record NodeStands (c : Collection) (ps : List Place) (n : NodeData) : Type 0 where
  pub item : Stands c n.item_kind
  pub of : (id : PackageId) → n.of ≡ Some id → IsSome (package_in ps id)
  pub made : n.role ≡ Role.Instance → IsSome n.of
  pub only : (id : PackageId) → n.of ≡ Some id → n.role ≡ Role.Instance
  pub defined : n.role ≡ Role.Defined → IsDefinedType n.item_kind
  pub instance : (id : PackageId) (p : Packaged) → n.of ≡ Some id → package_in ps id ≡ Some p
      → n.item_kind ≡ ItemKind.Instance p.instance_type

-- the one node is an instance, and its export of this name is the other's item, by their stated types
pub record GivesExport (g : Graph) (i : ℕ) (n : Name) (k : ℕ) : Type 0 where
  pub instance : NodeData
  pub instance_at : node_at g i ≡ Some instance
  pub one : is_instance instance.item_kind ≡ true
  pub alias : NodeData
  pub alias_at : node_at g k ≡ Some alias
  pub export : value_at (exports_of (stated_of g.types instance.item_kind)) n ≡ Some (stated_of g.types alias.item_kind)

-- the stated type by which what is passed is compared: of a definition the form in which it is written
abbrev pub passed_as : Role → Stated → Stated
passed_as Role.Defined t = written_definition t
passed_as r t = t

abbrev pub passed : Collection → NodeData → Stated
passed c x = passed_as x.role (stated_of c x.item_kind)

-- the node is an instance of a package that has this import, and the argument, as it is passed, fits that
pub record FillsImport (g : Graph) (a i : ℕ) (n : Name) : Type 0 where
  pub argument : NodeData
  pub argument_at : node_at g a ≡ Some argument
  pub of : Packaged
  pub is : instantiated g i ≡ Some of
  pub asked : Stated
  pub import : value_at (imports_of (stated_of g.types (ItemKind.Component of.ty))) n ≡ Some asked
  pub fits : Fits (tree (passed g.types argument)) (tree asked)

-- its ends stand, an alias edge leads to an alias whose item is that export, and what an argument edge passes fits
pub record EdgeStands (g : Graph) (e : Edge) : Type 0 where
  pub from : ContainsNode g e.from
  pub to : ContainsNode g e.to
  pub alias : (n : Name) → e.label ≡ Label.Alias n → (x : NodeData) × (node_at g e.to ≡ Some x) × (x.role ≡ Role.Aliased)
  pub export : (n : Name) → e.label ≡ Label.Alias n → GivesExport g e.from n e.to
  pub argument : (n : Name) → e.label ≡ Label.Argument n → FillsImport g e.from e.to n

-- edges stand, and each alias is one of an export of an instance
pub record AreWired (g : Graph) : Type 0 where
  pub edges : (e : Edge) → Among e g.edges → EdgeStands g e
  pub sources : (k : ℕ) (x : NodeData) → node_at g k ≡ Some x → x.role ≡ Role.Aliased
      → (i : ℕ) × (n : Name) × HasAlias g.edges i n k

-- exports have names of their own and stand; a node's export name is its
pub record AreExports (nodes : NodeMap) (exports : List (Name × ℕ)) : Type 0 where
  pub distinct : AreDistinct (names_of exports)
  pub stand : (n : Name) (k : ℕ) → Among (n, k) exports → IsSome (map.get nodes k)
  pub named : (k : ℕ) (x : NodeData) (n : Name) → map.get nodes k ≡ Some x → x.export ≡ Some n → Among (n, k) exports

-- packages stand, have keys of their own, and their places can be given up
pub record ArePlaces (c : Collection) (ps : List Place) : Type 0 where
  pub stand : (id : PackageId) (p : Packaged) → package_in ps id ≡ Some p → PackageStands c p
  pub low : (i : ℕ) (p : Place) → slice_get ps i ≡ Some p → IsSome p.held → p.generation < 18446744073709551615
  pub once : (i j : PackageId) (p q : Packaged) → package_in ps i ≡ Some p → package_in ps j ≡ Some q
      → package_key p ≡ package_key q → i ≡ j

pub record IsGraph (g : Graph) : Type 0 where
  pub nodes : (k : ℕ) (n : NodeData) → node_at g k ≡ Some n → NodeStands g.types g.places n
  pub once : AreOnce g.nodes
  pub acyclic : IsAcyclic g.edges
  pub keyed : AreKeyed g.edges
  pub wired : AreWired g
  pub exported : AreExports g.nodes g.exports
  pub packages : ArePlaces g.types g.places
