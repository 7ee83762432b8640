-- Why types could not be written in a scope.
use Rattle.std.specs.Prelude.{◌≡◌, ℕ, List, Option, Result, Some, None, Bool, false, IfOk, IfErr, IfNone, slice_get}
use Rattle.std.specs.Map.{lookup}
use Rattle.wac_types_base.specs.contracts.ids.DefinedTypeIdPartialEq.TheImpl.{eq-value}
use Rattle.wac_types_base.specs.declared.ids.DefinedTypeId.{DefinedTypeId}
use Rattle.wac_types_base.specs.declared.ids.ResourceId.{ResourceId}
use Rattle.wac_types_base.specs.declared.item.ValueType.{ValueType}
use Rattle.wac_types_base.specs.declared.item.ItemKind.{ItemKind}
use Rattle.wac_types_base.specs.declared.item.«Type».{«Type» as TypeKind}
use Rattle.wac_types_base.specs.declared.defined.DefinedType.{DefinedType}
use Rattle.wac_types_base.specs.Record.{Collection}
use Rattle.wac_types_base.specs.Graph.{Among}
use Rattle.wac_types_base.specs.Entries.{Name, value_at}
use Rattle.wac_types_base.specs.Collection.{Stands, slots_of, resource}
use Rattle.wac_types_base.specs.Resolving.{IsNoAlias}
use Rattle.wac_types_base.specs.Tree.{rigid, end}
use Rattle.wac_types_fit.specs.Trees.{tree_in}
use Rattle.wac_graph_scopes.specs.declared.error.WriteError.{WriteError}
use Rattle.wac_graph_scopes.specs.declared.scope.TypeScope.{TypeScope}
use Rattle.wac_graph_scopes.specs.declared.lacking.Lacking.{Lacking}
use Rattle.wac_graph_scopes.specs.Known.{type_tree, HasTree, IsFound}
use Rattle.wac_graph_scopes.specs.Scopes.{IsScopeOf}

-- the resource at the end of its aliases has no index there under its name
pub record IsUnnamed (c : Collection) (rs : List (Name × ℕ)) (r : ResourceId) : Type 0 where
  pub name : Name
  pub root : tree_in c (ItemKind.Ty (TypeKind.Resource r)) ≡ rigid (resource name) end
  pub lacking : value_at rs name ≡ None

-- no type that is known with a name has its tree
abbrev pub IsUnknown : Collection → TypeScope → ValueType → Type 0
IsUnknown c s v = IsScopeOf c s → HasTree c s.known.all.items (tree_in c (ItemKind.Value v)) → ⊥

-- of a handle, and of a defined type that is no alias, it is said that it is not known in the scope
abbrev pub IsLookedUp : Collection → TypeScope → ItemKind → Type 0
IsLookedUp c s (ItemKind.Value (ValueType.Own r)) = IsUnknown c s (ValueType.Own r)
IsLookedUp c s (ItemKind.Value (ValueType.Borrow r)) = IsUnknown c s (ValueType.Borrow r)
IsLookedUp c s (ItemKind.Value (ValueType.Defined d)) =
    IsNoAlias c (ValueType.Defined d) → IsScopeOf c s → IsFound c s.known.all.items d → ⊥
IsLookedUp c s k = Unit {0}

-- In what a kind names stands a handle of a resource that has no index there, and neither it nor a type around it is known.
pub data Dangles (c : Collection) (rs : List (Name × ℕ)) (s : TypeScope) : ItemKind → Type 0 where
  own_dangles : {r : ResourceId} → IsUnnamed c rs r → IsUnknown c s (ValueType.Own r) → Dangles c rs s (ItemKind.Value (ValueType.Own r))
  borrow_dangles : {r : ResourceId} → IsUnnamed c rs r → IsUnknown c s (ValueType.Borrow r)
      → Dangles c rs s (ItemKind.Value (ValueType.Borrow r))
  part_dangles : {k : ItemKind} {v : ValueType} → IsLookedUp c s k → Among (Some (ItemKind.Value v)) (slots_of c k)
      → Dangles c rs s (ItemKind.Value v) → Dangles c rs s k

-- in one of its parts
abbrev pub PartDangles : Collection → List (Name × ℕ) → TypeScope → ItemKind → Type 0
PartDangles c rs s k = (v : ValueType) × Among (Some (ItemKind.Value v)) (slots_of c k) × Dangles c rs s (ItemKind.Value v)

-- nothing in what it is made of dangles, so it can be written anew
abbrev pub IsWhole : Collection → TypeScope → ItemKind → Type 0
IsWhole c s k = PartDangles c s.resources s k → ⊥

-- nothing is found only where no type with a name has its tree, or it can be written anew
abbrev pub FindsNeeded : Collection → TypeScope → DefinedTypeId → Option ℕ → Type 0
FindsNeeded c s id o = IsScopeOf c s
    → IfNone o (HasTree c s.known.all.items (type_tree c (ValueType.Defined id))
    → IsWhole c s (ItemKind.Value (ValueType.Defined id)))

-- nothing is found only where the type is not known, or can be written anew
abbrev pub FindsAll : Collection → TypeScope → DefinedTypeId → Option ℕ → Type 0
FindsAll c s id o =
    IsScopeOf c s → IfNone o (IsFound c s.known.all.items id → IsWhole c s (ItemKind.Value (ValueType.Defined id)))

-- ---- whether types can be written anew

-- where that is said of defined types, it is true
pub record AreLacking (c : Collection) (s : TypeScope) (l : Lacking) : Type 0 where
  pub whole : (d : DefinedTypeId) → lookup (eq-value.it d) l.found.entries ≡ Some false → IsWhole c s (ItemKind.Value (ValueType.Defined d))

-- what is said stays true, and the answer is no only of what this holds of
abbrev pub TellsLacking : {E : Type 0} → Collection → TypeScope → Type 0 → Lacking → Lacking → Result Bool E → Type 0
TellsLacking c s P old new r = AreLacking c s old → IfOk r (λ b. AreLacking c s new × (b ≡ false → P))

abbrev pub NoneDangles : Collection → TypeScope → Option ValueType → Type 0
NoneDangles c s o = (v : ValueType) → o ≡ Some v → Dangles c s.resources s (ItemKind.Value v) → ⊥

-- Likewise of what is written whether or not it is known: what is at the end of its aliases is such a handle, or a part of it
-- dangles.
pub data DanglesApart (c : Collection) (rs : List (Name × ℕ)) (s : TypeScope) : ItemKind → Type 0 where
  dangles_apart : {k : ItemKind} → Dangles c rs s k → DanglesApart c rs s k
  own_apart : {r : ResourceId} → IsUnnamed c rs r → DanglesApart c rs s (ItemKind.Value (ValueType.Own r))
  borrow_apart : {r : ResourceId} → IsUnnamed c rs r → DanglesApart c rs s (ItemKind.Value (ValueType.Borrow r))
  part_apart : {d : DefinedTypeId} → PartDangles c rs s (ItemKind.Value (ValueType.Defined d))
      → DanglesApart c rs s (ItemKind.Value (ValueType.Defined d))
  alias_apart : {d : DefinedTypeId} {v : ValueType} → slice_get c.defined_types d.index ≡ Some (DefinedType.Alias v)
      → DanglesApart c rs s (ItemKind.Value v) → DanglesApart c rs s (ItemKind.Value (ValueType.Defined d))

-- why a new entry of a handle could not be written
abbrev pub RefusedHandle : Collection → ResourceId → TypeScope → WriteError → Type 0
RefusedHandle c r u WriteError.Unwritable = IsUnnamed c u.resources r
RefusedHandle c r u WriteError.Memory = Unit {0}

-- why no type with a name stands for a value type
abbrev pub LacksTree : Collection → TypeScope → ValueType → WriteError → Type 0
LacksTree c s v WriteError.Unwritable = IsUnknown c s v
LacksTree c s v WriteError.Memory = Unit {0}

-- why what a kind names could not be written in the scope, which became another one
abbrev pub Refused : Collection → ItemKind → TypeScope → TypeScope → WriteError → Type 0
Refused c k s u WriteError.Unwritable = Dangles c u.resources s k
Refused c k s u WriteError.Memory = Unit {0}

-- why what a kind is made of could not be written
abbrev pub RefusedParts : Collection → ItemKind → TypeScope → TypeScope → WriteError → Type 0
RefusedParts c k s u WriteError.Unwritable = PartDangles c u.resources s k
RefusedParts c k s u WriteError.Memory = Unit {0}

-- why what a kind names could not be written, be it known or not
abbrev pub RefusedApart : Collection → ItemKind → TypeScope → TypeScope → WriteError → Type 0
RefusedApart c k s u WriteError.Unwritable = DanglesApart c u.resources s k
RefusedApart c k s u WriteError.Memory = Unit {0}

-- of the value type in a place
abbrev pub RefusedPlace : Collection → Option ValueType → TypeScope → TypeScope → WriteError → Type 0
RefusedPlace c o s u e = (v : ValueType) × (o ≡ Some v) × Refused c (ItemKind.Value v) s u e

-- why what stands could not be written in the scope
abbrev pub RefusedThere : {T : Type 0} → Collection → ItemKind → TypeScope → TypeScope → Result T WriteError → Type 0
RefusedThere c k s u r = Stands c k → IfErr r (Refused c k s u)

abbrev pub RefusedThereApart : {T : Type 0} → Collection → ItemKind → TypeScope → TypeScope → Result T WriteError → Type 0
RefusedThereApart c k s u r = Stands c k → IfErr r (RefusedApart c k s u)
