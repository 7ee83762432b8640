-- Definitions that are written at the root, each as a type of its own that stands for its node.
use Rattle.std.specs.Prelude.{◌≡◌, ℕ, List, [], ◌∷◌, map, Some, slice_get, Result, OnOk, IfOk, nat_eq, if◌then◌else◌}
use Rattle.std.specs.Map.{lookup}
use Rattle.wac_types_base.specs.declared.ids.WorldId.{WorldId}
use Rattle.wac_types_base.specs.declared.item.ItemKind.{ItemKind}
use Rattle.wac_types_base.specs.declared.item.«Type».{«Type» as TypeKind}
use Rattle.wac_types_base.specs.declared.item.ValueType.{ValueType}
use Rattle.wac_types_base.specs.Record.{Collection}
use Rattle.wac_types_base.specs.Entries.{Name, names_of, value_at}
use Rattle.wac_types_base.specs.Graph.{Among}
use Rattle.wac_types_base.specs.Stated.{stated_of}
use Rattle.wac_types_base.specs.Tree.{Tree, tree}
use Rattle.wac_types_fit.specs.Trees.{tree_in}
use Rattle.wac_types_written.specs.Written.{written_definition}
use Rattle.wac_graph_bytes.specs.declared.value.Description.{Description}
use Rattle.wac_graph_bytes.specs.declared.value.Description.TheVariants as desc
use Rattle.wac_graph_bytes.specs.Typing.{Worlds, Scope, Known, Inside, item_of, type_at, value_of}
use Rattle.wac_graph_bytes.specs.declared.value.ValueType.TheVariants.{Index}
use Rattle.wac_graph_core.specs.Nodes.{NodeData, Role}
use Rattle.wac_graph_core.specs.Graph.{Graph, IsGraph, node_at}
use Rattle.wac_graph_scopes.specs.declared.scope.KnownTypes.{KnownTypes}
use Rattle.wac_graph_scopes.specs.declared.imports.Importing.{Importing}
use Rattle.wac_graph_scopes.specs.declared.imports.ImportScope.{ImportScope}
use Rattle.wac_graph_scopes.specs.declared.imports.SortIndex.{SortIndex}
use Rattle.wac_graph_scopes.specs.Scopes.{GoesOn, AreKnown}
use Rattle.wac_graph_scopes.specs.Imports.{WritesWorld, WritesOn}
use Rattle.wac_graph_scopes.specs.Roots.{at_root}
use Rattle.wac_graph_asks.specs.declared.asks.Definition.{Definition}
use Rattle.wac_graph_asks.specs.Wirings.{written_tree}
use Rattle.wac_graph_encode.specs.declared.root.Defined.{Defined}
use Rattle.wac_graph_encode.specs.declared.declarations.Early.{Early}
use Rattle.wac_graph_encode.specs.Standing.{StandsAt, type_place}
use Rattle.wac_graph_encode.specs.Formed.{HasForm}
use Rattle.wac_graph_encode.specs.Ready.{AddsNames}

-- the node that is defined
pub record IsNodeOf (g : Graph) (x : Definition) : Type 0 where
  pub node : NodeData
  pub there : node_at g x.node ≡ Some node
  pub role : node.role ≡ Role.Defined
  pub states : stated_of g.types node.item_kind ≡ stated_of g.types (ItemKind.Ty x.ty)

-- the description is a type entry of its own, of this type item
abbrev pub IsTypeEntry : Inside → Tree → Description → Type 0
IsTypeEntry i t d = (k : ℕ) × (d ≡ desc.Equal k) × (u : Tree) × (slice_get i.here.types k ≡ Some (Known u)) × (item_of u ≡ t)

-- the definition is a node's, and its type has its form in the collection
pub record IsToWrite (g : Graph) (c : Collection) (x : Definition) : Type 0 where
  pub node : IsNodeOf g x
  pub form : HasForm g.types c x.ty x.copy

abbrev pub AreToWrite : Graph → Collection → List Definition → Type 0
AreToWrite g c xs = (x : Definition) → Among x xs → IsToWrite g c x

-- a definition that is exported early: its type stands for its node, which is exported under that name
pub record IsEarlyAt (g : Graph) (w : Worlds) (i : Inside) (k : ℕ) (e : Early) : Type 0 where
  pub stands : StandsAt g w (at_root i []) [] e.node (type_place k)
  pub export : value_at g.exports e.name ≡ Some e.node

abbrev pub AreEarly : Graph → Worlds → Inside → List (ℕ × Early) → Type 0
AreEarly g w i es = (k : ℕ) (e : Early) → lookup (nat_eq k) es ≡ Some e → IsEarlyAt g w i k e

-- The world is written on, what is known of the graph's types is true there, the nodes stand, and so do those that are exported
-- early.
pub record HoldsDefinitions (g : Graph) (w : Worlds) (c : Collection) (world : WorldId) (i : Inside) (imported : List Name)
    (s : ImportScope) (known : KnownTypes) (nodes : List (ℕ × SortIndex)) (early : List (ℕ × Early)) : Type 0 where
  pub written : WritesOn w c [] world i s imported []
  pub knows : AreKnown w (written.goes.writing.inside.here ∷ []) g.types known
  pub stand : (k : ℕ) (p : SortIndex) → Among (k, p) nodes → StandsAt g w (at_root written.goes.writing.inside []) [] k p
  pub exported : AreEarly g w written.goes.writing.inside early

-- The world is written on, and what is so described is a type of its own, as the definition is written.
pub record DefinesIn (g : Graph) (w : Worlds) (c : Collection) (world : WorldId) (i : Inside) (imported : List Name)
    (x : Definition) (s : ImportScope) (known : KnownTypes) (d : Description) : Type 0 where
  pub goes : WritesWorld w c [] world s imported []
  pub on : GoesOn i goes.writing.inside
  pub knows : AreKnown w (goes.writing.inside.here ∷ []) g.types known
  pub entry : IsTypeEntry goes.writing.inside (written_tree g (ItemKind.Ty x.ty)) d

abbrev pub WritesDefinition : {E : Type 0} → Graph → Importing → Definition → (old : ImportScope) → (before : KnownTypes)
    → (new : ImportScope) → (after : KnownTypes) → Result Description E → Type 0
WritesDefinition g a x old before new after r = IsToWrite g a.types.now x
    → (w : Worlds) (i : Inside) (imported : List Name) (h : WritesOn w a.types.now [] a.world i old imported [])
    → AreKnown w (h.goes.writing.inside.here ∷ []) g.types before
    → IfOk r (DefinesIn g w a.types.now a.world i imported x new after)

-- ---- exports where definitions are written

-- where the index stands for the type as a definition of it is written, the types that are known are true again
abbrev pub PutsDefined : {U E : Type 0} → Collection → TypeKind → ℕ → Defined → Defined → Result U E → Type 0
PutsDefined c t k old new r = (w : Worlds) (ss : List Scope) (u : Tree) → AreKnown w ss c old.known → type_at w ss k ≡ Some u
    → item_of u ≡ tree (written_definition (stated_of c (ItemKind.Ty t))) → OnOk r (AreKnown w ss c new.known)

abbrev pub PutsValue : {U E : Type 0} → ValueType → ℕ → Defined → Defined → Result U E → Type 0
PutsValue v k old new r = (w : Worlds) (ss : List Scope) (c : Collection) → AreKnown w ss c old.known
    → value_of w ss (Index k) ≡ Some (tree_in c (ItemKind.Value v)) → OnOk r (AreKnown w ss c new.known)

-- the definition is exported early, whose type is at that index
pub record NotesEarly (x : Definition) (k : ℕ) (old new : Defined) : Type 0 where
  pub known : new.known ≡ old.known
  pub nodes : new.nodes ≡ old.nodes
  pub early : (j : ℕ) → lookup (nat_eq j) new.early.entries
      ≡ (if nat_eq k j then Some (record { name = x.name; node = x.node }) else lookup (nat_eq j) old.early.entries)

-- the definitions hold, and this one's type is at the index
pub record HoldsEntry (g : Graph) (w : Worlds) (c : Collection) (world : WorldId) (i : Inside) (imported : List Name) (x : Definition)
    (s : ImportScope) (d : Defined) (nodes : List (ℕ × SortIndex)) (k : ℕ) : Type 0 where
  pub holds : HoldsDefinitions g w c world i imported s d.known nodes d.early.entries
  pub entry : IsTypeEntry holds.written.goes.writing.inside (written_tree g (ItemKind.Ty x.ty)) (desc.Equal k)
  pub same : d.nodes.entries ≡ nodes

-- its type is at that index, or it is exported there and stands for it
abbrev pub ExportsDefinition : {E : Type 0} → Graph → Definition → ℕ → ImportScope → Defined → ImportScope → Defined → Result ℕ E
    → Type 0
ExportsDefinition g x k old before new after r = IsGraph g → IsNodeOf g x
    → (w : Worlds) (c : Collection) (world : WorldId) (i : Inside) (imported : List Name)
    → HoldsEntry g w c world i imported x old before before.nodes.entries k
    → IfOk r (HoldsEntry g w c world i imported x new after before.nodes.entries)

-- ---- with the nodes that stand

abbrev pub HoldsDefined : Graph → Worlds → Importing → Inside → List Name → ImportScope → Defined → Type 0
HoldsDefined g w a i imported s d = HoldsDefinitions g w a.types.now a.world i imported s d.known d.nodes.entries d.early.entries

-- the nodes that stood stand, and with them those of the definitions
abbrev pub NotesAll : List Definition → (old new : List (ℕ × SortIndex)) → Type 0
NotesAll xs old new = AddsNames (map (λ x. x.node) xs) (names_of old) (names_of new)

abbrev pub AddsDefinitions : {U E : Type 0} → Graph → Importing → List Definition → ImportScope → Defined → ImportScope → Defined
    → Result U E → Type 0
AddsDefinitions g a xs old before new after r = IsGraph g → AreToWrite g a.types.now xs
    → (w : Worlds) (i : Inside) (imported : List Name) → HoldsDefined g w a i imported old before
    → OnOk r (HoldsDefined g w a i imported new after × NotesAll xs before.nodes.entries after.nodes.entries)

-- the world is written on with the definitions, and their nodes stand
pub record AreDefined (g : Graph) (w : Worlds) (a : Importing) (i : Inside) (imported : List Name) (xs : List Definition)
    (s : ImportScope) (nodes : List (ℕ × SortIndex)) (early : List (ℕ × Early)) : Type 0 where
  pub known : KnownTypes
  pub holds : HoldsDefinitions g w a.types.now a.world i imported s known nodes early
  pub all : (x : Definition) → Among x xs → Among x.node (names_of nodes)

abbrev pub WritesDefinitions : Graph → Importing → List Definition → (old new : ImportScope) → List (ℕ × SortIndex)
    → List (ℕ × Early) → Type 0
WritesDefinitions g a xs old new nodes early = IsGraph g → AreToWrite g a.types.now xs
    → (w : Worlds) (i : Inside) (imported : List Name) → WritesOn w a.types.now [] a.world i old imported []
    → AreDefined g w a i imported xs new nodes early
