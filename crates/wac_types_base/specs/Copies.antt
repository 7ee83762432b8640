-- What has been copied into another collection, and entries with the ids of the copies.
use Rattle.std.specs.Prelude.{◌≡◌, ℕ, Option, Some, None, IsSome, nat_eq}
use Rattle.std.specs.HashMap.{HashMap, get, IsEmpty}
use Rattle.wac_types_base.specs.declared.copies.Copies.{Copies}
use Rattle.wac_types_base.specs.declared.ids.DefinedTypeId.{DefinedTypeId}
use Rattle.wac_types_base.specs.declared.ids.ResourceId.{ResourceId}
use Rattle.wac_types_base.specs.declared.ids.FuncTypeId.{FuncTypeId}
use Rattle.wac_types_base.specs.declared.ids.InterfaceId.{InterfaceId}
use Rattle.wac_types_base.specs.declared.ids.WorldId.{WorldId}
use Rattle.wac_types_base.specs.declared.ids.ModuleTypeId.{ModuleTypeId}
use Rattle.wac_types_base.specs.declared.item.ValueType.{ValueType}
use Rattle.wac_types_base.specs.declared.item.«Type».{«Type» as TypeKind}
use Rattle.wac_types_base.specs.declared.item.ItemKind.{ItemKind}
use Rattle.wac_types_base.specs.declared.defined.DefinedType.{DefinedType}
use Rattle.wac_types_base.specs.declared.defined.Resource.{Resource}
use Rattle.wac_types_base.specs.declared.defined.ResourceAlias.{ResourceAlias}
use Rattle.wac_types_base.specs.declared.defined.UsedType.{UsedType}
use Rattle.wac_types_base.specs.declared.defined.FuncType.{FuncType}
use Rattle.wac_types_base.specs.declared.defined.Interface.{Interface}
use Rattle.wac_types_base.specs.declared.defined.World.{World}
use Rattle.wac_types_base.specs.Graph.{Among}
use Rattle.wac_types_base.specs.Record.{Collection}
use Rattle.wac_types_base.specs.Collection.{Stands, slots_of}
use Rattle.wac_types_base.specs.Copying.{IsCopy}
use Rattle.wac_types_base.specs.Renaming.{Renaming, value_renamed, option_renamed, type_renamed, kind_renamed, defined_renamed, alias_renamed, resource_renamed, func_renamed, used_renamed, interface_renamed, world_renamed}

-- the index of the copy, and of what has none its own
abbrev pub copy_or : Option ℕ → ℕ → ℕ
copy_or None i = i
copy_or (Some n) i = n

-- each id becomes that of its copy
abbrev pub copied_ids : Copies → Renaming
copied_ids m = record {
  defined_type = λ i. record { collection = m.number; index = copy_or (get nat_eq m.defined_types i.index) i.index };
  resource = λ i. record { collection = m.number; index = copy_or (get nat_eq m.resources i.index) i.index };
  func_type = λ i. record { collection = m.number; index = copy_or (get nat_eq m.func_types i.index) i.index };
  interface = λ i. record { collection = m.number; index = copy_or (get nat_eq m.interfaces i.index) i.index };
  world = λ i. record { collection = m.number; index = copy_or (get nat_eq m.worlds i.index) i.index };
  module_type = λ i. record { collection = m.number; index = copy_or (get nat_eq m.modules i.index) i.index };
}

abbrev pub defined_id : Copies → DefinedTypeId → DefinedTypeId
defined_id m i = (copied_ids m).defined_type i

abbrev pub resource_id : Copies → ResourceId → ResourceId
resource_id m i = (copied_ids m).resource i

abbrev pub func_id : Copies → FuncTypeId → FuncTypeId
func_id m i = (copied_ids m).func_type i

abbrev pub interface_id : Copies → InterfaceId → InterfaceId
interface_id m i = (copied_ids m).interface i

abbrev pub world_id : Copies → WorldId → WorldId
world_id m i = (copied_ids m).world i

abbrev pub module_id : Copies → ModuleTypeId → ModuleTypeId
module_id m i = (copied_ids m).module_type i

abbrev pub value_copy : Copies → ValueType → ValueType
value_copy m = value_renamed (copied_ids m)

abbrev pub option_copy : Copies → Option ValueType → Option ValueType
option_copy m = option_renamed (copied_ids m)

abbrev pub type_copy : Copies → TypeKind → TypeKind
type_copy m = type_renamed (copied_ids m)

abbrev pub kind_copy : Copies → ItemKind → ItemKind
kind_copy m = kind_renamed (copied_ids m)

-- the index of the copy of what a kind names; a primitive type needs none
abbrev pub value_known : Copies → ValueType → Option ℕ
value_known m (ValueType.Primitive p) = Some 0
value_known m (ValueType.Borrow r) = get nat_eq m.resources r.index
value_known m (ValueType.Own r) = get nat_eq m.resources r.index
value_known m (ValueType.Defined d) = get nat_eq m.defined_types d.index

abbrev pub type_known : Copies → TypeKind → Option ℕ
type_known m (TypeKind.Resource r) = get nat_eq m.resources r.index
type_known m (TypeKind.Func f) = get nat_eq m.func_types f.index
type_known m (TypeKind.Value v) = value_known m v
type_known m (TypeKind.Interface i) = get nat_eq m.interfaces i.index
type_known m (TypeKind.World w) = get nat_eq m.worlds w.index
type_known m (TypeKind.Module n) = get nat_eq m.modules n.index

abbrev pub known : Copies → ItemKind → Option ℕ
known m (ItemKind.Ty t) = type_known m t
known m (ItemKind.Func f) = get nat_eq m.func_types f.index
known m (ItemKind.Instance i) = get nat_eq m.interfaces i.index
known m (ItemKind.Component w) = get nat_eq m.worlds w.index
known m (ItemKind.Module n) = get nat_eq m.modules n.index
known m (ItemKind.Value v) = value_known m v

abbrev pub Knows : Copies → ItemKind → Type 0
Knows m k = IsSome (known m k)

-- ---- entries with the ids of the copies

abbrev pub defined_copy : Copies → DefinedType → DefinedType
defined_copy m = defined_renamed (copied_ids m)

abbrev pub alias_copy : Copies → ResourceAlias → ResourceAlias
alias_copy m = alias_renamed (copied_ids m)

abbrev pub resource_copy : Copies → Resource → Resource
resource_copy m = resource_renamed (copied_ids m)

abbrev pub func_copy : Copies → FuncType → FuncType
func_copy m = func_renamed (copied_ids m)

abbrev pub used_copy : Copies → UsedType → UsedType
used_copy m = used_renamed (copied_ids m)

abbrev pub interface_copy : Copies → Interface → Interface
interface_copy m = interface_renamed (copied_ids m)

abbrev pub world_copy : Copies → World → World
world_copy m = world_renamed (copied_ids m)

-- ---- what is true of them

abbrev pub defined_at : ℕ → ℕ → ItemKind
defined_at n i = ItemKind.Value (ValueType.Defined (record { collection = n; index = i }))

abbrev pub resource_at : ℕ → ℕ → ItemKind
resource_at n i = ItemKind.Ty (TypeKind.Resource (record { collection = n; index = i }))

abbrev pub func_at : ℕ → ℕ → ItemKind
func_at n i = ItemKind.Func (record { collection = n; index = i })

abbrev pub interface_at : ℕ → ℕ → ItemKind
interface_at n i = ItemKind.Instance (record { collection = n; index = i })

abbrev pub world_at : ℕ → ℕ → ItemKind
world_at n i = ItemKind.Component (record { collection = n; index = i })

abbrev pub module_at : ℕ → ℕ → ItemKind
module_at n i = ItemKind.Module (record { collection = n; index = i })

-- each entry in a table has its copy there
abbrev pub EachCopied : {S : Type 0} → Collection → Collection → (ℕ → ℕ → ItemKind) → ℕ → HashMap ℕ ℕ S → Type 0
EachCopied c d kind n t =
    (i j : ℕ) → get nat_eq t i ≡ Some j → Stands c (kind c.number i) → IsCopy c d (kind c.number i) (kind n j)

-- what they say are copies in d of what is in c
pub record AreCopies (c d : Collection) (m : Copies) : Type 0 where
  pub number : m.number ≡ d.number
  pub defined_types : EachCopied c d defined_at m.number m.defined_types
  pub resources : EachCopied c d resource_at m.number m.resources
  pub func_types : EachCopied c d func_at m.number m.func_types
  pub interfaces : EachCopied c d interface_at m.number m.interfaces
  pub worlds : EachCopied c d world_at m.number m.worlds
  pub modules : EachCopied c d module_at m.number m.modules

-- nothing is copied yet
abbrev pub HasNone : Copies → Type 0
HasNone m = IsEmpty m.defined_types × IsEmpty m.resources × IsEmpty m.func_types × IsEmpty m.interfaces × IsEmpty m.worlds
    × IsEmpty m.modules

-- what had a copy has one
abbrev pub KeepsKnown : Copies → Copies → Type 0
KeepsKnown old new = (k : ItemKind) → Knows old k → Knows new k

-- what is in the places of a kind has a copy
abbrev pub KnowsPlaces : Collection → Copies → ItemKind → Type 0
KnowsPlaces c m k = (j : ItemKind) → Among (Some j) (slots_of c k) → Knows m j
