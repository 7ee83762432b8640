-- What stands under the id of an entry that was added.
use Rattle.std.specs.Prelude.{◌≡◌, Some}
use Rattle.wac_types_base.specs.declared.item.ItemKind.{ItemKind}
use Rattle.wac_types_base.specs.declared.item.ValueType.{ValueType}
use Rattle.wac_types_base.specs.declared.item.«Type».{«Type» as TypeKind}
use Rattle.wac_types_base.specs.declared.defined.DefinedType.{DefinedType}
use Rattle.wac_types_base.specs.declared.defined.Resource.{Resource}
use Rattle.wac_types_base.specs.declared.defined.FuncType.{FuncType}
use Rattle.wac_types_base.specs.declared.defined.Interface.{Interface}
use Rattle.wac_types_base.specs.declared.defined.World.{World}
use Rattle.wac_types_base.specs.declared.ids.DefinedTypeId.{DefinedTypeId}
use Rattle.wac_types_base.specs.declared.ids.ResourceId.{ResourceId}
use Rattle.wac_types_base.specs.declared.ids.FuncTypeId.{FuncTypeId}
use Rattle.wac_types_base.specs.declared.ids.InterfaceId.{InterfaceId}
use Rattle.wac_types_base.specs.declared.ids.WorldId.{WorldId}
use Rattle.wac_types_base.specs.Record.{Collection}
use Rattle.wac_types_base.specs.Collection.{Stands, item_node, defined_entry, resource_entry, func_entry, interface_entry, world_entry}

abbrev pub HasDefined : Collection → DefinedType → DefinedTypeId → Type 0
HasDefined c x i = item_node c (ItemKind.Value (ValueType.Defined i)) ≡ Some (defined_entry x)

abbrev pub HasResource : Collection → Resource → ResourceId → Type 0
HasResource c x i = item_node c (ItemKind.Ty (TypeKind.Resource i)) ≡ Some (resource_entry x)

abbrev pub HasFunc : Collection → FuncType → FuncTypeId → Type 0
HasFunc c x i = item_node c (ItemKind.Func i) ≡ Some (func_entry x)

abbrev pub HasInterface : Collection → Interface → InterfaceId → Type 0
HasInterface c x i = item_node c (ItemKind.Instance i) ≡ Some (interface_entry x)

abbrev pub HasWorld : Collection → World → WorldId → Type 0
HasWorld c x i = item_node c (ItemKind.Component i) ≡ Some (world_entry x)

-- nothing stood under the id
pub record IsNew (c : Collection) (k : ItemKind) : Type 0 where
  pub absent : Stands c k → ⊥

-- a type that did not stand, and is no resource
pub record IsNewType (c : Collection) (t : TypeKind) : Type 0 where
  pub absent : Stands c (ItemKind.Ty t) → ⊥
  pub plain : (r : ResourceId) → t ≡ TypeKind.Resource r → ⊥
