-- The world that is handed out, and what is told of it on the way.
use Rattle.std.specs.Prelude.{◌≡◌, ◌⊎◌, ℕ, true, false, List, [], map, Option, Some, None, IsSome, option_and_then, option_map, slice_get}
use Rattle.wac_types_base.specs.declared.item.ItemKind.{ItemKind}
use Rattle.wac_types_base.specs.declared.ids.WorldId.{WorldId}
use Rattle.wac_types_base.specs.Record.{Collection}
use Rattle.wac_types_base.specs.Entries.{Name, names_of, put_entry, value_at}
use Rattle.wac_types_base.specs.Graph.{Among}
use Rattle.wac_types_base.specs.Collection.{Stands}
use Rattle.wac_types_base.specs.Stated.{IsComponent, Stated, kind_of, stated_of, world_of}
use Rattle.wac_types_base.specs.Fits.{Fits}
use Rattle.wac_types_base.specs.Remembering.{HasCopied}
use Rattle.wac_types_fit.specs.Trees.{tree_in}
use Rattle.wac_types_written.specs.Forms.{IsOf, ItemsStand, stated_items}
use Rattle.indexmap.specs.IndexMap.{insert_entry}
use Rattle.wac_graph_core.specs.contracts.ids.NodeIdPartialEq.TheImpl as node
use Rattle.wac_graph_core.specs.Nodes.{NodeData, Role}
use Rattle.wac_graph_core.specs.Graph.{Graph, is_instance, node_at}
use Rattle.wac_types_parts.specs.Parts.{imports_of}
use Rattle.wac_composition.specs.Asks.{asks_of}
use Rattle.wac_composition.specs.Worlds.{exported_type, final_type, used_world}
use Rattle.wac_graph_asks.specs.declared.asks.Definition.{Definition}
use Rattle.wac_graph_asks.specs.declared.outers.Outers.{Outers}
use Rattle.wac_graph_asks.specs.Graphs.{composition_of, item_at, origin_of}
use Rattle.wac_graph_asks.specs.Outers.{IsOuters}
use Rattle.wac_graph_encode.specs.declared.copying.Copies.{Copies}
use Rattle.wac_graph_encode.specs.declared.world.Finals.{Finals}
use Rattle.wac_graph_encode.specs.Defining.{AreToWrite}

-- ---- the world

-- the world states what the composition asks of the outside and exports, with uses in it
abbrev pub IsUsedWorld : Graph → Collection → WorldId → Type 0
IsUsedWorld g c w = IsOf c (used_world (composition_of g)) (ItemKind.Component w)

-- each node that is defined is among the definitions
abbrev pub AreAllDefined : Graph → List Definition → Type 0
AreAllDefined g xs =
    (k : ℕ) (x : NodeData) → node_at g k ≡ Some x → x.role ≡ Role.Defined → (d : Definition) × Among d xs × (d.node ≡ k)

-- what the graph asks of the outside is there, with all its definitions in the forms in which they are written
pub record IsToHandOut (g : Graph) (c : Collection) (o : Outers) (xs : List Definition) : Type 0 where
  pub outers : IsOuters g c o.world o.places
  pub definitions : AreToWrite g c xs
  pub all : AreAllDefined g xs

-- ---- the type of a node at last

-- by where it comes from
abbrev pub final_at : Graph → ℕ → Option Stated
final_at g k = final_type (asks_of (composition_of g)) (origin_of g k)

-- that under which it is exported
abbrev pub exported_at : Graph → ℕ → Stated
exported_at g k = exported_type (asks_of (composition_of g)) (origin_of g k, item_at g k)

-- The item is the type at last. That of an instance fits the type that it has in the graph.
pub record IsFinal (g : Graph) (c : Collection) (k : ℕ) (item : ItemKind) : Type 0 where
  pub stands : Stands c item
  pub states : final_at g k ≡ Some (stated_of c item)
  pub fits : (x : NodeData) → node_at g k ≡ Some x → is_instance x.item_kind ≡ true
      → Fits (tree_in c item) (tree_in g.types x.item_kind)

-- none is told by its origin, or the type that the node has in the graph
abbrev pub HasOwnType : Graph → ℕ → Type 0
HasOwnType g k = (final_at g k ≡ None)
    ⊎ ((x : NodeData) × (node_at g k ≡ Some x) × (is_instance x.item_kind ≡ false)
    × (final_at g k ≡ Some (stated_of g.types x.item_kind)))

abbrev pub TellsFinal : Graph → Collection → ℕ → Option ItemKind → Type 0
TellsFinal g c k (Some item) = IsFinal g c k item
TellsFinal g c k None = HasOwnType g k

-- the outer imports and the types of definitions are known; other definitions have the types that they have in the graph
pub record KnowsFinals (g : Graph) (c : Collection) (f : Finals) : Type 0 where
  pub outers : IsOuters g c f.outers.now.world f.outers.now.places
  pub definitions : (k : ℕ) (item : ItemKind) → Among (k, item) f.definitions.entries → IsFinal g c k item
  pub others : (k : ℕ) (x : NodeData) → node_at g k ≡ Some x → x.role ≡ Role.Defined
      → (Among k (names_of f.definitions.entries) → ⊥) → HasOwnType g k

-- ---- how it is told

-- the type of the outer import that is asked for under the name
abbrev pub outer_type : Collection → Outers → Name → Option ItemKind
outer_type c o n = option_and_then (λ at. option_map (λ e. e.1) (slice_get (imports_of c o.world) at)) (value_at o.places n)

abbrev pub IsDefinitionType : List Definition → ℕ → ItemKind → Type 0
IsDefinitionType xs k item = (x : Definition) × Among x xs × (x.node ≡ k) × (x.copy ≡ Some item)

-- the written types of the definitions that have one of their own, by their nodes
pub record AreDefinitionTypes (xs : List Definition) (es : List (ℕ × ItemKind)) : Type 0 where
  pub sound : (k : ℕ) (item : ItemKind) → Among (k, item) es → IsDefinitionType xs k item
  pub all : (x : Definition) → Among x xs → IsSome x.copy → Among x.node (names_of es)

abbrev pub told_definition : Definition → Option ItemKind → List (ℕ × ItemKind) → List (ℕ × ItemKind)
told_definition x None es = es
told_definition x (Some item) es = insert_entry node.eq-value.it es x.node item

abbrev pub NotesDefinition : Definition → List (ℕ × ItemKind) → List (ℕ × ItemKind) → Type 0
NotesDefinition x old new = new ≡ told_definition x x.copy old

-- ---- exports

-- the node's own type, copied
abbrev pub TellsCopied : Graph → Collection → ℕ → Option ItemKind → Type 0
TellsCopied g c k None = node_at g k ≡ None
TellsCopied g c k (Some item) = IsOf c (item_at g k) item

abbrev pub TellsExported : Graph → Collection → ℕ → Option ItemKind → Type 0
TellsExported g c k None = node_at g k ≡ None
TellsExported g c k (Some item) = IsOf c (exported_at g k) item

-- the node's type is put under the name
abbrev pub AddsExported : Graph → Collection → Name → ℕ → List (Name × ItemKind) → List (Name × ItemKind) → Type 0
AddsExported g c n k old new = (item : ItemKind) × (new ≡ put_entry old n item) × IsOf c (exported_at g k) item

-- nodes by their names, each with its type
pub record AreExported (g : Graph) (c : Collection) (nodes : List (Name × ℕ)) (es : List (Name × ItemKind)) : Type 0 where
  pub stand : ItemsStand c es
  pub state : stated_items c es ≡ map (λ e. (e.0, exported_at g e.1)) nodes

-- ---- what is copied

unfoldable pub AreCopies : Collection → Collection → Copies → Type 0
AreCopies c d x = HasCopied c d x.copier

-- the item is a world
abbrev pub IsAWorld : Collection → ItemKind → Type 0
IsAWorld c k = kind_of (stated_of c k) ≡ IsComponent

-- with an import under its name
abbrev pub with_import : Option (Name × ItemKind) → List (Name × ItemKind) → List (Name × ItemKind)
with_import None es = es
with_import (Some e) es = put_entry es e.0 e.1

-- the world is made of these
abbrev pub IsWorldMade : (old new : Collection) → (imports exports : List (Name × ItemKind)) → WorldId → Type 0
IsWorldMade old new imports exports w =
    IsOf new (world_of None [] (stated_items old imports) (stated_items old exports)) (ItemKind.Component w)
