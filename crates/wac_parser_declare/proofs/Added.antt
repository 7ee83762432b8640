-- What stands under the id of an entry that was added.
use Rattle.std.proofs.Common.{◌≡◌, [], ◌∷◌, ◌++◌, length, Some, Result, Ok, Err, OnOk, IfOk, refl}
use Rattle.std.specs.declared.alloc.AllocError.{AllocError}
use Rattle.wac_types_base.specs.declared.item.ItemKind.{ItemKind}
use Rattle.wac_types_base.specs.declared.item.ValueType.{ValueType}
use Rattle.wac_types_base.specs.declared.item.«Type».{«Type» as TypeKind}
use Rattle.wac_types_base.specs.declared.defined.DefinedType.{DefinedType}
use Rattle.wac_types_base.specs.declared.defined.Resource.{Resource}
use Rattle.wac_types_base.specs.declared.defined.FuncType.{FuncType}
use Rattle.wac_types_base.specs.declared.defined.Interface.{Interface}
use Rattle.wac_types_base.specs.declared.defined.World.{World}
use Rattle.wac_types_base.specs.declared.ids.DefinedTypeId.{DefinedTypeId}
use Rattle.wac_types_base.specs.declared.ids.ResourceId.{ResourceId}
use Rattle.wac_types_base.specs.declared.ids.FuncTypeId.{FuncTypeId}
use Rattle.wac_types_base.specs.declared.ids.InterfaceId.{InterfaceId}
use Rattle.wac_types_base.specs.declared.ids.WorldId.{WorldId}
use Rattle.wac_types_base.specs.Record.{Collection}
use Rattle.wac_types_base.specs.Kept.{keeping}
use Rattle.wac_types_base.specs.Collection.{item_node, defined_entry, resource_entry, func_entry, interface_entry, world_entry}
use Rattle.wac_types_base.proofs.Slots.{entry_at-is}
use Rattle.wac_types_base.proofs.Copying.{last_place}

module _ (c d : Collection) where
  pub defined_added : (x : DefinedType) (r : Result DefinedTypeId AllocError) → OnOk r (d ≡ keeping d.kept (record c { defined_types = c.defined_types ++ x ∷ [] })) → IfOk r (λ i. i ≡ record { collection = c.number; index = length c.defined_types })
      → IfOk r (λ i. item_node d (ItemKind.Value (ValueType.Defined i)) ≡ Some (defined_entry x))
  unfolding item_node
  defined_added x (Ok i) e id = rw (e, id) (entry_at-is defined_entry c.number (c.defined_types ++ x ∷ []) c.number (length c.defined_types) x (last_place c.defined_types x) refl)
  defined_added x (Err f) e id = tt

  pub resource_added : (x : Resource) (r : Result ResourceId AllocError) → OnOk r (d ≡ keeping d.kept (record c { resources = c.resources ++ x ∷ [] })) → IfOk r (λ i. i ≡ record { collection = c.number; index = length c.resources })
      → IfOk r (λ i. item_node d (ItemKind.Ty (TypeKind.Resource i)) ≡ Some (resource_entry x))
  unfolding item_node
  resource_added x (Ok i) e id = rw (e, id) (entry_at-is resource_entry c.number (c.resources ++ x ∷ []) c.number (length c.resources) x (last_place c.resources x) refl)
  resource_added x (Err f) e id = tt

  pub func_added : (x : FuncType) (r : Result FuncTypeId AllocError) → OnOk r (d ≡ keeping d.kept (record c { func_types = c.func_types ++ x ∷ [] })) → IfOk r (λ i. i ≡ record { collection = c.number; index = length c.func_types })
      → IfOk r (λ i. item_node d (ItemKind.Func i) ≡ Some (func_entry x))
  unfolding item_node
  func_added x (Ok i) e id = rw (e, id) (entry_at-is func_entry c.number (c.func_types ++ x ∷ []) c.number (length c.func_types) x (last_place c.func_types x) refl)
  func_added x (Err f) e id = tt

  pub interface_added : (x : Interface) (r : Result InterfaceId AllocError) → OnOk r (d ≡ keeping d.kept (record c { interfaces = c.interfaces ++ x ∷ [] })) → IfOk r (λ i. i ≡ record { collection = c.number; index = length c.interfaces })
      → IfOk r (λ i. item_node d (ItemKind.Instance i) ≡ Some (interface_entry x))
  unfolding item_node
  interface_added x (Ok i) e id = rw (e, id) (entry_at-is interface_entry c.number (c.interfaces ++ x ∷ []) c.number (length c.interfaces) x (last_place c.interfaces x) refl)
  interface_added x (Err f) e id = tt

  pub world_added : (x : World) (r : Result WorldId AllocError) → OnOk r (d ≡ keeping d.kept (record c { worlds = c.worlds ++ x ∷ [] })) → IfOk r (λ i. i ≡ record { collection = c.number; index = length c.worlds })
      → IfOk r (λ i. item_node d (ItemKind.Component i) ≡ Some (world_entry x))
  unfolding item_node
  world_added x (Ok i) e id = rw (e, id) (entry_at-is world_entry c.number (c.worlds ++ x ∷ []) c.number (length c.worlds) x (last_place c.worlds x) refl)
  world_added x (Err f) e id = tt

pub ruleset added = (defined_added, resource_added, func_added, interface_added, world_added)
