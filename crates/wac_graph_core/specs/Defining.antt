-- Definitions of types, and which depends on which.
use Rattle.std.specs.Prelude.{◌≡◌, ◌≢◌, ◌<◌, ◌⊎◌, ℕ, List, [], ◌∷◌, ◌++◌, Some, None, string_bytes}
use Rattle.std.specs.FinMap as map
use Rattle.wac_types_base.specs.declared.ids.DefinedTypeId.{DefinedTypeId}
use Rattle.wac_types_base.specs.declared.item.ItemKind.{ItemKind}
use Rattle.wac_types_base.specs.declared.item.«Type».{«Type» as TypeKind}
use Rattle.wac_types_base.specs.Record.{Collection}
use Rattle.wac_types_base.specs.Collection.{Stands}
use Rattle.wac_types_base.specs.Entries.{Name, value_at}
use Rattle.wac_types_base.specs.Graph.{Among}
use Rattle.wac_types_base.specs.Visiting.{defined_in}
use Rattle.wac_graph_core.specs.declared.edge.Edge.{Edge}
use Rattle.wac_graph_core.specs.declared.error.DefineTypeError.{DefineTypeError}
use Rattle.wac_graph_core.specs.Nodes.{NodeData, Role, IsResource, defined_node}
use Rattle.wac_graph_core.specs.NodeMaps.{NodeMap, AreBelow, IsDefinition, NoDefinition}
use Rattle.wac_graph_core.specs.Edges.{AreEdges, dependency_edge}
use Rattle.wac_graph_core.specs.Graph.{Graph, node_at}
use Rattle.wac_graph_core.specs.Steps.{IsExternName}
use Rattle.wac_graph_core.specs.Reaching.{Reaches, Marked}

-- the second is a defined type, and the first reaches it
pub record UsesType (c : Collection) (s t : TypeKind) : Type 0 where
  pub id : DefinedTypeId
  pub is : defined_in (ItemKind.Ty t) ≡ Some id
  pub reached : Reaches c (ItemKind.Ty s) id

-- b is another definition than a, and its type uses the type that a defines
pub record Depends (g : Graph) (a b : ℕ) : Type 0 where
  pub source : TypeKind
  pub target : TypeKind
  pub from : IsDefinition g.nodes a (ItemKind.Ty source)
  pub to : IsDefinition g.nodes b (ItemKind.Ty target)
  pub apart : a ≢ b
  pub uses : UsesType g.types target source

-- a dependency of the node, or one on it
pub record IsDependencyOf (g : Graph) (k : ℕ) (e : Edge) : Type 0 where
  pub a : ℕ
  pub b : ℕ
  pub is : e ≡ dependency_edge a b
  pub depends : Depends g a b
  pub ends : (a ≡ k) ⊎ (b ≡ k)

-- no definition of the type, and it is no resource
abbrev pub IsDefinable : Graph → TypeKind → Type 0
IsDefinable g t = NoDefinition g.nodes (ItemKind.Ty t) × (IsResource t → ⊥)

-- a type is defined, exported under its name, and joined with the definitions that use it and that it uses
pub record DefinesType (old new : Graph) (n : Name) (t : TypeKind) (k : ℕ) : Type 0 where
  pub definable : IsDefinable old t
  pub valid : IsExternName n
  pub unexported : value_at old.exports n ≡ None
  pub above : AreBelow old.nodes k
  pub free : node_at old k ≡ None
  pub edges : AreEdges new.edges (λ d. Among d old.edges ⊎ IsDependencyOf new k d)
  pub made : new
      ≡ record old { nodes = map.insert old.nodes k (defined_node t n); edges = new.edges; exports = old.exports ++ (n, k) ∷ [] }

abbrev pub DefineRefused : Graph → Name → TypeKind → DefineTypeError → Type 0
DefineRefused g n t DefineTypeError.TypeAlreadyDefined = (k : ℕ) × IsDefinition g.nodes k (ItemKind.Ty t)
DefineRefused g n t DefineTypeError.CannotDefineResource = NoDefinition g.nodes (ItemKind.Ty t) × IsResource t
DefineRefused g n t (DefineTypeError.InvalidExternName m source) = (string_bytes m ≡ n) × IsDefinable g t × (IsExternName n → ⊥)
DefineRefused g n t (DefineTypeError.ExportConflict m) =
    (string_bytes m ≡ n) × IsDefinable g t × IsExternName n × (k : ℕ) × (value_at g.exports n ≡ Some k)
DefineRefused g n t DefineTypeError.Memory = Unit {0}

-- ---- single steps

-- every test has passed, and this is the name
pub record MayDefine (g : Graph) (n : Name) (t : TypeKind) (own : Name) : Type 0 where
  pub named : own ≡ n
  pub definable : IsDefinable g t
  pub valid : IsExternName n
  pub unexported : value_at g.exports n ≡ None

-- a definition of a type that the type uses
pub record IsUsedBy (c : Collection) (t : TypeKind) (x : NodeData) : Type 0 where
  pub source : TypeKind
  pub role : x.role ≡ Role.Defined
  pub type : x.item_kind ≡ ItemKind.Ty source
  pub uses : UsesType c t source

-- a definition of a type that uses the type
pub record IsUserOf (c : Collection) (t : TypeKind) (x : NodeData) : Type 0 where
  pub target : TypeKind
  pub role : x.role ≡ Role.Defined
  pub type : x.item_kind ≡ ItemKind.Ty target
  pub uses : UsesType c target t

-- a definition of a marked type
pub record DefinesMarked (marks : List TypeKind) (x : NodeData) : Type 0 where
  pub source : TypeKind
  pub id : DefinedTypeId
  pub role : x.role ≡ Role.Defined
  pub type : x.item_kind ≡ ItemKind.Ty source
  pub is : defined_in (ItemKind.Ty source) ≡ Some id
  pub marked : Marked marks id

-- a definition of a type that reaches this one
pub record DefinesReaching (c : Collection) (wanted : DefinedTypeId) (x : NodeData) : Type 0 where
  pub target : TypeKind
  pub role : x.role ≡ Role.Defined
  pub type : x.item_kind ≡ ItemKind.Ty target
  pub reached : Reaches c (ItemKind.Ty target) wanted

abbrev pub ItemsStand : Collection → NodeMap → Type 0
ItemsStand c m = (k : ℕ) (x : NodeData) → map.get m k ≡ Some x → Stands c x.item_kind

-- each defined type that a definition reaches has an index below the bound
abbrev pub ReachBelow : Collection → NodeMap → ℕ → Type 0
ReachBelow c m bound = (k : ℕ) (x : NodeData) → map.get m k ≡ Some x → x.role ≡ Role.Defined → (d : DefinedTypeId)
    → Reaches c x.item_kind d → d.index < bound
