-- The two families of asks of which the greatest common tree is kept.
use Rattle.std.specs.Prelude.{◌≡◌, ◌<◌, ◌⊎◌, List, [], length, Option, Some, None, IsSome, slice_get}
use Rattle.wac_types_base.specs.declared.item.ValueType.{ValueType}
use Rattle.wac_types_base.specs.declared.item.«Type».{«Type» as TypeKind}
use Rattle.wac_types_base.specs.declared.item.ItemKind.{ItemKind}
use Rattle.wac_types_base.specs.declared.defined.Resource.{Resource}
use Rattle.wac_types_base.specs.declared.defined.ResourceAlias.{ResourceAlias}
use Rattle.wac_types_base.specs.declared.defined.UsedType.{UsedType}
use Rattle.wac_types_base.specs.declared.defined.Interface.{Interface}
use Rattle.wac_types_base.specs.declared.defined.World.{World}
use Rattle.wac_types_base.specs.declared.ids.InterfaceId.{InterfaceId}
use Rattle.wac_types_base.specs.Record.{Collection}
use Rattle.wac_types_base.specs.Entries.{Name, values_of}
use Rattle.wac_types_base.specs.Graph.{Among}
use Rattle.wac_types_base.specs.Collection.{item_node}
use Rattle.wac_types_base.specs.Reaching.{Reaches}
use Rattle.wac_types_base.specs.Stated.{stated_of}
use Rattle.wac_types_base.specs.Parts.{identifier_in}
use Rattle.wac_types_base.specs.Implicit.{used_interfaces, uses_in}
use Rattle.wac_types_merge.specs.declared.family.Family.{Family}

abbrev pub uses_of : Option Interface → List UsedType
uses_of None = []
uses_of (Some x) = values_of x.uses

-- one of the interfaces that are used has no identifier
abbrev pub IsUnnamedIn : Collection → List UsedType → Type 0
IsUnnamedIn c us = (i : InterfaceId) × Among i (used_interfaces us) × (identifier_in (slice_get c.interfaces i.index) ≡ None)

abbrev pub uses_of_world : Option World → List UsedType
uses_of_world None = []
uses_of_world (Some x) = values_of x.uses

abbrev pub uses_at_type : Collection → TypeKind → List UsedType
uses_at_type c (TypeKind.Interface i) = uses_of (slice_get c.interfaces i.index)
uses_at_type c (TypeKind.World w) = uses_of_world (slice_get c.worlds w.index)
uses_at_type c t = []

abbrev pub uses_at : Collection → ItemKind → List UsedType
uses_at c (ItemKind.Instance i) = uses_of (slice_get c.interfaces i.index)
uses_at c (ItemKind.Component w) = uses_of_world (slice_get c.worlds w.index)
uses_at c (ItemKind.Ty t) = uses_at_type c t
uses_at c k = []

-- an instance or a component, or the type of one, that uses an interface without identifier
abbrev pub UsesUnnamed : Collection → ItemKind → Type 0
UsesUnnamed c k = IsUnnamedIn c (uses_at c k)

-- ---- plain

-- an identifier or a use
abbrev pub HasMore : Option Interface → Type 0
HasMore None = ⊥
HasMore (Some x) = IsSome x.id ⊎ (0 < length x.uses)

abbrev pub owner_of : Option ResourceAlias → Option InterfaceId
owner_of None = None
owner_of (Some a) = a.owner

abbrev pub owner_in : Option Resource → Option InterfaceId
owner_in None = None
owner_in (Some x) = owner_of x.alias

abbrev pub value_owner : Collection → ValueType → Option InterfaceId
value_owner c (ValueType.Primitive p) = None
value_owner c (ValueType.Borrow r) = owner_in (slice_get c.resources r.index)
value_owner c (ValueType.Own r) = owner_in (slice_get c.resources r.index)
value_owner c (ValueType.Defined d) = None

abbrev pub type_owner : Collection → TypeKind → Option InterfaceId
type_owner c (TypeKind.Resource r) = owner_in (slice_get c.resources r.index)
type_owner c (TypeKind.Value v) = value_owner c v
type_owner c t = None

-- the owner of a resource, or of the resource of a handle
abbrev pub owner : Collection → ItemKind → Option InterfaceId
owner c (ItemKind.Ty t) = type_owner c t
owner c (ItemKind.Value v) = value_owner c v
owner c k = None

abbrev pub IsUnplainType : Collection → TypeKind → Type 0
IsUnplainType c (TypeKind.Resource r) = IsSome (owner_in (slice_get c.resources r.index))
IsUnplainType c (TypeKind.Func f) = ⊥
IsUnplainType c (TypeKind.Value v) = IsSome (value_owner c v)
IsUnplainType c (TypeKind.Interface i) = HasMore (slice_get c.interfaces i.index)
IsUnplainType c (TypeKind.World w) = Unit {0}
IsUnplainType c (TypeKind.Module m) = Unit {0}

-- a component, a world or a module, an interface with an identifier or a use, or a resource with an owner
abbrev pub IsUnplain : Collection → ItemKind → Type 0
IsUnplain c (ItemKind.Ty t) = IsUnplainType c t
IsUnplain c (ItemKind.Func f) = ⊥
IsUnplain c (ItemKind.Instance i) = HasMore (slice_get c.interfaces i.index)
IsUnplain c (ItemKind.Component w) = Unit {0}
IsUnplain c (ItemKind.Module m) = Unit {0}
IsUnplain c (ItemKind.Value v) = IsSome (value_owner c v)

-- nothing that is reached is such
abbrev pub IsPlainItem : Collection → ItemKind → Type 0
IsPlainItem c k = Reaches (item_node c) (IsUnplain c) k → ⊥

-- ---- WIT

-- j is used by i, or by an interface that i uses
pub data IsUsedBy (c : Collection) : InterfaceId → InterfaceId → Type 0 where
  used_directly : {i j : InterfaceId} → Among j (uses_in (slice_get c.interfaces i.index)) → IsUsedBy c i j
  used_further : {i j k : InterfaceId} → Among k (uses_in (slice_get c.interfaces i.index)) → IsUsedBy c k j → IsUsedBy c i j

-- a function, a value type or a resource
abbrev pub IsWitExport : ItemKind → Type 0
IsWitExport (ItemKind.Func f) = Unit {0}
IsWitExport (ItemKind.Ty (TypeKind.Value v)) = Unit {0}
IsWitExport (ItemKind.Ty (TypeKind.Resource r)) = Unit {0}
IsWitExport k = ⊥

-- an interface that states what this one does is used
abbrev pub UsesSuch : Collection → InterfaceId → InterfaceId → Type 0
UsesSuch c i o = (j : InterfaceId) × IsUsedBy c i j × (stated_of c (ItemKind.Instance j) ≡ stated_of c (ItemKind.Instance o))

-- a resource, or a handle of one; no interface that states what its owner does is used by the interface
abbrev pub IsForeign : Collection → InterfaceId → ItemKind → Type 0
IsForeign c i k = (o : InterfaceId) × (owner c k ≡ Some o) × (UsesSuch c i o → ⊥)

-- each of these is a function, a value type or a resource, and of each owner of a resource in it such an interface is used
abbrev pub AreWitExports : Collection → InterfaceId → List ItemKind → Type 0
AreWitExports c i ks = (k : ItemKind) → Among k ks → IsWitExport k × (Reaches (item_node c) (IsForeign c i) k → ⊥)

-- an interface with this identifier and such exports
abbrev pub IsWitInterface : Collection → Name → InterfaceId → Option Interface → Type 0
IsWitInterface c name i None = ⊥
IsWitInterface c name i (Some x) = (x.id ≡ Some name) × AreWitExports c i (values_of x.exports)

-- an instance of such an interface
abbrev pub IsWitItem : Collection → Name → ItemKind → Type 0
IsWitItem c name (ItemKind.Instance i) = IsWitInterface c name i (slice_get c.interfaces i.index)
IsWitItem c name k = ⊥

-- ---- the family of an ask

abbrev pub IsFamily : Collection → Name → ItemKind → Family → Type 0
IsFamily c name k Family.Plain = IsPlainItem c k
IsFamily c name k Family.Wit = IsWitItem c name k
IsFamily c name k Family.Neither = (IsPlainItem c k → ⊥) × (IsWitItem c name k → ⊥)

-- the family of what is asked twice
abbrev pub joint : Family → Family → Family
joint Family.Plain Family.Plain = Family.Plain
joint Family.Wit Family.Wit = Family.Wit
joint f g = Family.Neither
