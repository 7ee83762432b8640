-- The places of what stands, by its entry.
use Rattle.std.proofs.Common.{◌≡◌, ℕ, List, [], Option, Some, None, IsSome, Bool, true, false, ◌==◌, slice_get, refl, sym, ap, subst, if◌then◌else◌, IsTrue, ◌↔◌}
use Rattle.std.specs.Option.{option_map}
use Rattle.wac_types_base.specs.declared.item.PrimitiveType.{PrimitiveType}
use Rattle.wac_types_base.specs.declared.item.ValueType.{ValueType}
use Rattle.wac_types_base.specs.declared.item.«Type».{«Type» as TypeKind}
use Rattle.wac_types_base.specs.declared.item.ItemKind.{ItemKind}
use Rattle.wac_types_base.specs.declared.defined.DefinedType.{DefinedType}
use Rattle.wac_types_base.specs.declared.defined.Resource.{Resource}
use Rattle.wac_types_base.specs.declared.defined.FuncType.{FuncType}
use Rattle.wac_types_base.specs.declared.defined.Interface.{Interface}
use Rattle.wac_types_base.specs.declared.defined.World.{World}
use Rattle.wac_types_base.specs.declared.core_types.ModuleType.{ModuleType}
use Rattle.wac_types_base.specs.declared.ids.FuncTypeId.{FuncTypeId}
use Rattle.wac_types_base.specs.declared.ids.InterfaceId.{InterfaceId}
use Rattle.wac_types_base.specs.declared.ids.WorldId.{WorldId}
use Rattle.wac_types_base.specs.declared.ids.ResourceId.{ResourceId}
use Rattle.wac_types_base.specs.declared.ids.DefinedTypeId.{DefinedTypeId}
use Rattle.wac_types_base.specs.declared.ids.ModuleTypeId.{ModuleTypeId}
use Rattle.wac_types_base.specs.Record.{Collection}
use Rattle.wac_types_base.specs.Collection.{Shape, Entry, entry_at, labelled, type_of, borrow_of, own_of, defined_entry, resource_entry, module_entry, func_entry, interface_entry, world_entry, value_node, item_node, Stands, slots_in, slots_of}
use Rattle.wac_types_base.proofs.Replacing.{number_same}

pub entry_at-is : {E : Type 0} (f : E → Entry) (n : ℕ) (es : List E) (col i : ℕ) (x : E) → slice_get es i ≡ Some x → col ≡ n → entry_at f n es col i ≡ Some (f x)
entry_at-is f n es col i x e h = rw (number_same col n h, e) refl

slots-labelled : (l : Shape → Shape) (o : Option Entry) → slots_in (labelled l o) ≡ slots_in o
slots-labelled l None = refl
slots-labelled l (Some e) = refl

pub stands-labelled : (l : Shape → Shape) (o : Option Entry) → IsSome (labelled l o) → IsSome o
stands-labelled l None h = h
stands-labelled l (Some e) h = refl

empty_places : (c : Collection) (m : ModuleTypeId) → slots_in (entry_at module_entry c.number c.modules m.collection m.index) ≡ []
empty_places c m = by_entry (slice_get c.modules m.index) (m.collection == c.number)
  where
    by_entry : (o : Option ModuleType) (b : Bool) → slots_in (if b then option_map module_entry o else None) ≡ []
    by_entry None true = refl
    by_entry (Some x) true = refl
    by_entry o false = refl

module _ (c : Collection) where
  pub slots_func : (id : FuncTypeId) (x : FuncType) → slice_get c.func_types id.index ≡ Some x → id.collection ≡ c.number → slots_of c (ItemKind.Func id) ≡ (func_entry x).1
  unfolding item_node
  slots_func id x e h = ap slots_in (entry_at-is func_entry c.number c.func_types id.collection id.index x e h)

  pub slots_interface : (id : InterfaceId) (x : Interface) → slice_get c.interfaces id.index ≡ Some x → id.collection ≡ c.number → slots_of c (ItemKind.Instance id) ≡ (interface_entry x).1
  unfolding item_node
  slots_interface id x e h = ap slots_in (entry_at-is interface_entry c.number c.interfaces id.collection id.index x e h)

  pub slots_world : (id : WorldId) (x : World) → slice_get c.worlds id.index ≡ Some x → id.collection ≡ c.number → slots_of c (ItemKind.Component id) ≡ (world_entry x).1
  unfolding item_node
  slots_world id x e h = ap slots_in (entry_at-is world_entry c.number c.worlds id.collection id.index x e h)

  pub slots_resource : (id : ResourceId) (x : Resource) → slice_get c.resources id.index ≡ Some x → id.collection ≡ c.number → slots_of c (ItemKind.Ty (TypeKind.Resource id)) ≡ (resource_entry x).1
  unfolding item_node
  slots_resource id x e h = ap slots_in (entry_at-is resource_entry c.number c.resources id.collection id.index x e h)

  pub slots_defined : (id : DefinedTypeId) (x : DefinedType) → slice_get c.defined_types id.index ≡ Some x → id.collection ≡ c.number → slots_of c (ItemKind.Value (ValueType.Defined id)) ≡ (defined_entry x).1
  unfolding item_node
  slots_defined id x e h = ap slots_in (entry_at-is defined_entry c.number c.defined_types id.collection id.index x e h)

  pub slots_primitive : (p : PrimitiveType) → slots_of c (ItemKind.Value (ValueType.Primitive p)) ≡ []
  unfolding item_node
  slots_primitive p = refl

  pub slots_module : (m : ModuleTypeId) → slots_of c (ItemKind.Module m) ≡ []
  unfolding item_node
  slots_module m = empty_places c m

  pub slots_borrow : (id : ResourceId) → slots_of c (ItemKind.Value (ValueType.Borrow id)) ≡ slots_of c (ItemKind.Ty (TypeKind.Resource id))
  unfolding item_node
  slots_borrow id = slots-labelled borrow_of (entry_at resource_entry c.number c.resources id.collection id.index)

  pub slots_own : (id : ResourceId) → slots_of c (ItemKind.Value (ValueType.Own id)) ≡ slots_of c (ItemKind.Ty (TypeKind.Resource id))
  unfolding item_node
  slots_own id = slots-labelled own_of (entry_at resource_entry c.number c.resources id.collection id.index)

  pub slots_typed_func : (id : FuncTypeId) → slots_of c (ItemKind.Ty (TypeKind.Func id)) ≡ slots_of c (ItemKind.Func id)
  unfolding item_node
  slots_typed_func id = slots-labelled type_of (entry_at func_entry c.number c.func_types id.collection id.index)

  pub slots_typed_value : (v : ValueType) → slots_of c (ItemKind.Ty (TypeKind.Value v)) ≡ slots_of c (ItemKind.Value v)
  unfolding item_node
  slots_typed_value id = slots-labelled type_of (value_node c id)

  pub slots_typed_interface : (id : InterfaceId) → slots_of c (ItemKind.Ty (TypeKind.Interface id)) ≡ slots_of c (ItemKind.Instance id)
  unfolding item_node
  slots_typed_interface id = slots-labelled type_of (entry_at interface_entry c.number c.interfaces id.collection id.index)

  pub slots_typed_world : (id : WorldId) → slots_of c (ItemKind.Ty (TypeKind.World id)) ≡ slots_of c (ItemKind.Component id)
  unfolding item_node
  slots_typed_world id = slots-labelled type_of (entry_at world_entry c.number c.worlds id.collection id.index)

  pub slots_typed_module : (id : ModuleTypeId) → slots_of c (ItemKind.Ty (TypeKind.Module id)) ≡ slots_of c (ItemKind.Module id)
  unfolding item_node
  slots_typed_module id = slots-labelled type_of (entry_at module_entry c.number c.modules id.collection id.index)

  pub stands_borrow : (id : ResourceId) → Stands c (ItemKind.Value (ValueType.Borrow id)) → Stands c (ItemKind.Ty (TypeKind.Resource id))
  unfolding item_node
  stands_borrow id = stands-labelled borrow_of (entry_at resource_entry c.number c.resources id.collection id.index)

  pub stands_own : (id : ResourceId) → Stands c (ItemKind.Value (ValueType.Own id)) → Stands c (ItemKind.Ty (TypeKind.Resource id))
  unfolding item_node
  stands_own id = stands-labelled own_of (entry_at resource_entry c.number c.resources id.collection id.index)

  pub stands_typed_func : (id : FuncTypeId) → Stands c (ItemKind.Ty (TypeKind.Func id)) → Stands c (ItemKind.Func id)
  unfolding item_node
  stands_typed_func id = stands-labelled type_of (entry_at func_entry c.number c.func_types id.collection id.index)

  pub stands_typed_value : (v : ValueType) → Stands c (ItemKind.Ty (TypeKind.Value v)) → Stands c (ItemKind.Value v)
  unfolding item_node
  stands_typed_value id = stands-labelled type_of (value_node c id)

  pub stands_typed_interface : (id : InterfaceId) → Stands c (ItemKind.Ty (TypeKind.Interface id)) → Stands c (ItemKind.Instance id)
  unfolding item_node
  stands_typed_interface id = stands-labelled type_of (entry_at interface_entry c.number c.interfaces id.collection id.index)

  pub stands_typed_world : (id : WorldId) → Stands c (ItemKind.Ty (TypeKind.World id)) → Stands c (ItemKind.Component id)
  unfolding item_node
  stands_typed_world id = stands-labelled type_of (entry_at world_entry c.number c.worlds id.collection id.index)

  pub stands_typed_module : (id : ModuleTypeId) → Stands c (ItemKind.Ty (TypeKind.Module id)) → Stands c (ItemKind.Module id)
  unfolding item_node
  stands_typed_module id = stands-labelled type_of (entry_at module_entry c.number c.modules id.collection id.index)

typed_test : (b : Bool) (o : Option Entry) → (IsTrue b ↔ IsSome (labelled type_of o)) → (IsTrue b ↔ IsSome o)
typed_test b None h = h
typed_test b (Some e) h = (λ t. refl, λ s. h.1 refl)

module _ (c : Collection) where
  pub has_func : (k : ItemKind) (id : FuncTypeId) (b : Bool) → k ≡ ItemKind.Func id → (IsTrue b ↔ Stands c (ItemKind.Ty (TypeKind.Func id))) → (IsTrue b ↔ Stands c k)
  unfolding item_node
  has_func k id b is h = subst (λ k. IsTrue b ↔ Stands c k) (sym is) (typed_test b (entry_at func_entry c.number c.func_types id.collection id.index) h)

  pub has_interface : (k : ItemKind) (id : InterfaceId) (b : Bool) → k ≡ ItemKind.Instance id → (IsTrue b ↔ Stands c (ItemKind.Ty (TypeKind.Interface id))) → (IsTrue b ↔ Stands c k)
  unfolding item_node
  has_interface k id b is h = subst (λ k. IsTrue b ↔ Stands c k) (sym is) (typed_test b (entry_at interface_entry c.number c.interfaces id.collection id.index) h)

  pub has_world : (k : ItemKind) (id : WorldId) (b : Bool) → k ≡ ItemKind.Component id → (IsTrue b ↔ Stands c (ItemKind.Ty (TypeKind.World id))) → (IsTrue b ↔ Stands c k)
  unfolding item_node
  has_world k id b is h = subst (λ k. IsTrue b ↔ Stands c k) (sym is) (typed_test b (entry_at world_entry c.number c.worlds id.collection id.index) h)

  pub has_module : (k : ItemKind) (id : ModuleTypeId) (b : Bool) → k ≡ ItemKind.Module id → (IsTrue b ↔ Stands c (ItemKind.Ty (TypeKind.Module id))) → (IsTrue b ↔ Stands c k)
  unfolding item_node
  has_module k id b is h = subst (λ k. IsTrue b ↔ Stands c k) (sym is) (typed_test b (entry_at module_entry c.number c.modules id.collection id.index) h)

pub ruleset slots = (slots_func, slots_interface, slots_world, slots_resource, slots_defined, slots_primitive, slots_module, slots_borrow, slots_own, slots_typed_func, slots_typed_value, slots_typed_interface, slots_typed_world, slots_typed_module, stands_borrow, stands_own, stands_typed_func, stands_typed_value, stands_typed_interface, stands_typed_world, stands_typed_module)
