-- What stands in an instance type before its other exports: the types that it uses, and its own resources.
use Rattle.std.specs.Prelude.{◌≡◌, ℕ, ◌<◌, List, Result, Some, IsSome, slice_get, OnOk, true, ◌⊎◌}
use Rattle.wac_types_base.specs.declared.ids.InterfaceId.{InterfaceId}
use Rattle.wac_types_base.specs.declared.item.ItemKind.{ItemKind}
use Rattle.wac_types_base.specs.declared.item.«Type».{«Type» as TypeKind}
use Rattle.wac_types_base.specs.Record.{Collection}
use Rattle.wac_types_base.specs.Graph.{Among}
use Rattle.wac_types_base.specs.Entries.{Name, value_at, has_name}
use Rattle.wac_types_base.specs.Collection.{resource}
use Rattle.wac_types_base.specs.Tree.{Tree, rigid, end}
use Rattle.wac_types_fit.specs.Trees.{tree_in}
use Rattle.wac_types_parts.specs.declared.parts.Use.{Use}
use Rattle.wac_types_parts.specs.Parts.{exports_of, uses_of, IsUseAt, taken_in, IsFresh}
use Rattle.wac_graph_scopes.specs.declared.scope.TypeScope.{TypeScope}
use Rattle.wac_graph_scopes.specs.declared.items.ItemScope.{ItemScope}
use Rattle.wac_graph_scopes.specs.Known.{type_tree, HasTree, KeepsKnown}
use Rattle.wac_graph_scopes.specs.Used.{Used}
use Rattle.wac_graph_scopes.specs.Items.{IsUsedBy}

-- a use of the interface takes the item
pub record UseTakes (c : Collection) (id : InterfaceId) (u : Use) (item : ItemKind) : Type 0 where
  pub at : ℕ
  pub use_is : IsUseAt (uses_of c id) at u
  pub item_is : taken_in c u ≡ Some item

-- and the item stands around, under the identifier of its interface and with its tree
abbrev pub IsTaken : Collection → Used → InterfaceId → ItemKind → Type 0
IsTaken c us id item = (u : Use) × (k : ℕ) × UseTakes c id u item × IsUsedBy c us u item k

-- the interface exports the item, which is a resource under its own name
abbrev pub IsOwn : Collection → InterfaceId → ItemKind → Type 0
IsOwn c id item = (n : Name) × Among (n, item) (exports_of c id) × IsFresh c n item

-- a resource or a value type with that tree stands in the instance type before the other exports
abbrev pub IsStocked : Collection → Used → InterfaceId → Tree → Type 0
IsStocked c us id t = (item : ItemKind) × (IsTaken c us id item ⊎ IsOwn c id item) × (tree_in c item ≡ t)

-- ---- in the scope in which it is written

-- a resource has an index under its root name; a value type is known, and has a name
abbrev pub Holds : Collection → TypeScope → ItemKind → Type 0
Holds c s (ItemKind.Ty (TypeKind.Resource r)) =
    (n : Name) × (tree_in c (ItemKind.Ty (TypeKind.Resource r)) ≡ rigid (resource n) end) × IsSome (value_at s.resources n)
Holds c s (ItemKind.Ty (TypeKind.Value v)) = HasTree c s.known.all.items (type_tree c v)
Holds c s k = Unit {0}

-- what stood before stands there
abbrev pub HoldsStock : Collection → Used → InterfaceId → TypeScope → Type 0
HoldsStock c us id s = (item : ItemKind) → IsTaken c us id item ⊎ IsOwn c id item → Holds c s item

-- what was known is known, and a resource that had an index under its name has one
pub record KeepsTypes (old new : TypeScope) : Type 0 where
  pub known : KeepsKnown old.known.all.items new.known.all.items
  pub resources : (n : Name) → IsSome (value_at old.resources n) → IsSome (value_at new.resources n)

-- ---- while it is written

-- what the use takes, if it stands around
abbrev pub HoldsUse : Collection → Used → Use → TypeScope → Type 0
HoldsUse c us u s = (item : ItemKind) (k : ℕ) → taken_in c u ≡ Some item → IsUsedBy c us u item k → Holds c s item

-- what the use at the place takes
abbrev pub HoldsUseAt : Collection → Used → InterfaceId → ℕ → TypeScope → Type 0
HoldsUseAt c us id at s = (u : Use) → IsUseAt (uses_of c id) at u → HoldsUse c us u s

-- what the uses before this one take
abbrev pub HoldsUses : Collection → Used → InterfaceId → ℕ → TypeScope → Type 0
HoldsUses c us id at s = (n : ℕ) → n < at → HoldsUseAt c us id n s

-- the export of that name, if it is a resource under its own name
abbrev pub HoldsExport : Collection → InterfaceId → TypeScope → Name → Type 0
HoldsExport c id s n = (k : ItemKind) → value_at (exports_of c id) n ≡ Some k → IsFresh c n k → IsSome (value_at s.resources n)

-- the exports of these names
abbrev pub HoldsExports : Collection → InterfaceId → TypeScope → List Name → Type 0
HoldsExports c id s ns = (n : Name) → Among n ns → HoldsExport c id s n

-- and also with the names that are given then
abbrev pub GivesExports : {U E : Type 0} → Collection → InterfaceId → ItemScope → List Name → ItemScope → List Name → Result U E
    → Type 0
GivesExports c id old before_names new names r =
    HoldsExports c id old.types before_names → OnOk r (HoldsExports c id new.types names)

-- the export at the place, if it is a resource under its own name, has one of these names
abbrev pub IsGivenAt : Collection → InterfaceId → ℕ → List Name → Type 0
IsGivenAt c id at given =
    (n : Name) (k : ItemKind) → slice_get (exports_of c id) at ≡ Some (n, k) → IsFresh c n k → has_name given n ≡ true

-- the export at the place, if it is such a resource
abbrev pub HoldsOwnAt : Collection → InterfaceId → ℕ → TypeScope → Type 0
HoldsOwnAt c id at s = (n : Name) (k : ItemKind) → slice_get (exports_of c id) at ≡ Some (n, k) → IsFresh c n k
    → IsSome (value_at s.resources n)

-- the exports before this one
abbrev pub HoldsOwn : Collection → InterfaceId → ℕ → TypeScope → Type 0
HoldsOwn c id at s = (m : ℕ) → m < at → HoldsOwnAt c id m s
