-- What is known of nodes by one look.
use Rattle.std.specs.Prelude.{◌≡◌, ◌⊎◌, ℕ, List, [], ◌∷◌, ◌++◌, length, Option, Some, None, true}
use Rattle.std.specs.FinMap as map
use Rattle.wac_types_base.specs.declared.ids.DefinedTypeId.{DefinedTypeId}
use Rattle.wac_types_base.specs.declared.item.ItemKind.{ItemKind}
use Rattle.wac_types_base.specs.declared.item.«Type».{«Type» as TypeKind}
use Rattle.wac_types_base.specs.Entries.{Name, AreDistinct, names_of}
use Rattle.wac_types_base.specs.Graph.{Among}
use Rattle.wac_types_base.specs.Visiting.{defined_in}
use Rattle.wac_graph_core.specs.declared.noted.Noted.{Noted}
use Rattle.wac_graph_core.specs.Nodes.{NodeData, Role}
use Rattle.wac_graph_core.specs.NodeMaps.{NodeMap, IsImport, IsDefinition}
use Rattle.wac_graph_core.specs.Slots.{nodes_in}
use Rattle.wac_graph_core.specs.Edges.{has}
use Rattle.wac_graph_core.specs.TypeMaps.{node_of}

-- each definition is the node of its type
abbrev pub KnowsTypes : List (TypeKind × ℕ) → NodeMap → Type 0
KnowsTypes ts nodes = (k : ℕ) (t : TypeKind) → IsDefinition nodes k (ItemKind.Ty t) → node_of ts t ≡ Some k

-- each import is noted by its name, and each definition by its type
pub record Notes (s : Noted) (nodes : NodeMap) : Type 0 where
  pub imports : (k : ℕ) (n : Name) → IsImport nodes k n → Among (n, k) s.imports.items
  pub types : KnowsTypes s.types nodes

-- where something is known of nodes, it is of these
abbrev pub HasNotes : Option Noted → NodeMap → Type 0
HasNotes None nodes = Unit {0}
HasNotes (Some s) nodes = Notes s nodes

-- ---- single steps

-- the node is a definition of no type
abbrev pub DefinesNoType : NodeData → Type 0
DefinesNoType x = (t : TypeKind) → x.role ≡ Role.Defined → x.item_kind ≡ ItemKind.Ty t → ⊥

-- the node is noted by its name, where it is an import
pub record NotesImport (old : List (Name × ℕ)) (x : NodeData) (id : ℕ) (new : List (Name × ℕ)) : Type 0 where
  pub kept : (e : Name × ℕ) → Among e old → Among e new
  pub added : (n : Name) → x.role ≡ Role.Imported n → Among (n, id) new

-- no name is noted twice, and each stays that is not the one that the node imports
pub record ForgetsImport (old : List (Name × ℕ)) (x : NodeData) (new : List (Name × ℕ)) : Type 0 where
  pub distinct : AreDistinct (names_of old)
  pub kept : (n : Name) (k : ℕ) → (x.role ≡ Role.Imported n → ⊥) → Among (n, k) old → Among (n, k) new

-- each type stays that the node does not define
abbrev pub ForgetsType : List (TypeKind × ℕ) → NodeData → List (TypeKind × ℕ) → Type 0
ForgetsType old x new = (t : TypeKind) (k : ℕ) → (x.role ≡ Role.Defined → x.item_kind ≡ ItemKind.Ty t → ⊥)
    → node_of old t ≡ Some k → node_of new t ≡ Some k

-- the node is noted by its type, where it is a definition
pub record NotesType (old : List (TypeKind × ℕ)) (x : NodeData) (id : ℕ) (new : List (TypeKind × ℕ)) : Type 0 where
  pub kept : (t : TypeKind) (k : ℕ) → node_of old t ≡ Some k → node_of new t ≡ Some k
  pub added : (t : TypeKind) → x.role ≡ Role.Defined → x.item_kind ≡ ItemKind.Ty t → node_of new t ≡ Some id

-- what is known of nodes is known of them with one more
abbrev pub IsNodeNoted : Option Noted → NodeData → ℕ → Option Noted → Type 0
IsNodeNoted old x id new = (nodes : NodeMap) → HasNotes old nodes → HasNotes new (map.insert nodes id x)

-- what is known of nodes is known of them with one less
abbrev pub IsNodeForgotten : Option Noted → NodeData → Option Noted → Type 0
IsNodeForgotten old x new =
    (nodes : NodeMap) (k : ℕ) → map.get nodes k ≡ Some x → HasNotes old nodes → HasNotes new (map.remove nodes k)

-- what is known of the nodes in slots is known of them with what stands in the slot behind them
abbrev pub IsSlotNoted : Option Noted → Option NodeData → ℕ → Option Noted → Type 0
IsSlotNoted old x id new = (slots : List (Option NodeData)) → length slots ≡ id → HasNotes old (nodes_in slots)
    → HasNotes new (nodes_in (slots ++ x ∷ []))

-- this is the definition of the type, if it has one
abbrev pub TellsDefinition : NodeMap → TypeKind → Option ℕ → Type 0
TellsDefinition nodes t o = (k : ℕ) → IsDefinition nodes k (ItemKind.Ty t) → o ≡ Some k

-- the node is the definition of a defined type
pub record DefinesOwn (nodes : NodeMap) (t : TypeKind) (k : ℕ) : Type 0 where
  pub definition : IsDefinition nodes k (ItemKind.Ty t)
  pub id : DefinedTypeId
  pub is : defined_in (ItemKind.Ty t) ≡ Some id

-- the definition of the type is added, where it is a defined type that has one
pub record AddsDefinition (nodes : NodeMap) (t : TypeKind) (old new : List ℕ) : Type 0 where
  pub kept : (k : ℕ) → has old k ≡ true → has new k ≡ true
  pub added : (k : ℕ) → DefinesOwn nodes t k → has new k ≡ true
  pub only : (k : ℕ) → has new k ≡ true → (has old k ≡ true) ⊎ DefinesOwn nodes t k
