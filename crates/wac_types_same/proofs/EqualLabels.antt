-- Labels of items: equal ones are of items of one kind.
use Rattle.std.proofs.Common.{◌≡◌, Some, Bool, true, false, IsTrue, ◌↔◌, slice_get, refl, sym, ap, ◌∙◌}
use Rattle.wac_types_base.specs.declared.item.PrimitiveType.{PrimitiveType}
use Rattle.wac_types_base.specs.declared.item.ValueType.{ValueType}
use Rattle.wac_types_base.specs.declared.item.«Type».{«Type» as TypeKind}
use Rattle.wac_types_base.specs.declared.item.ItemKind.{ItemKind}
use Rattle.wac_types_base.specs.declared.ids.DefinedTypeId.{DefinedTypeId}
use Rattle.wac_types_base.specs.declared.ids.ResourceId.{ResourceId}
use Rattle.wac_types_base.specs.declared.ids.FuncTypeId.{FuncTypeId}
use Rattle.wac_types_base.specs.declared.ids.InterfaceId.{InterfaceId}
use Rattle.wac_types_base.specs.declared.ids.WorldId.{WorldId}
use Rattle.wac_types_base.specs.declared.ids.ModuleTypeId.{ModuleTypeId}
use Rattle.wac_types_base.specs.declared.defined.DefinedType.{DefinedType}
use Rattle.wac_types_base.specs.declared.defined.Resource.{Resource}
use Rattle.wac_types_base.specs.declared.defined.FuncType.{FuncType}
use Rattle.wac_types_base.specs.declared.defined.Interface.{Interface}
use Rattle.wac_types_base.specs.declared.defined.World.{World}
use Rattle.wac_types_base.specs.declared.core_types.ModuleType.{ModuleType}
use Rattle.wac_types_base.specs.Record.{Collection}
use Rattle.wac_types_base.specs.Collection.{Shape, Stands, item_node, labelled, primitive, type_of, borrow_of, own_of, defined_entry, resource_entry, func_entry, interface_entry, world_entry, module_entry}
use Rattle.wac_types_base.specs.Stated.{Kind, IsResource, IsFunctionType, IsValueType, IsInterface, IsWorld, IsModuleType, shape_kind}
use Rattle.wac_types_base.proofs.GraphLemmas.{value_of}
use Rattle.wac_types_base.proofs.Slots.{entry_at-is, stands_borrow, stands_own, stands_typed_value}
use Rattle.wac_types_base.proofs.Standing.{resource_found, defined_found}
use Rattle.wac_types_base.proofs.Telling.{item_kind, label_kind}
use Rattle.wac_types_fit.proofs.ItemKinds.{is_type}
use Rattle.wac_types_same.specs.Same.{label_in, label_of}
use Rattle.wac_types_same.proofs.Lists.{said_no}

-- ---- equal labels

pub through : (l : Shape → Shape) → ((s t : Shape) → l s ≡ l t → s ≡ t) → (b : Bool) (s t la lb : Shape) → la ≡ l s → lb ≡ l t → IsTrue b ↔ (s ≡ t) → IsTrue b ↔ (la ≡ lb)
through l one b s t la lb p q h = (λ x. p ∙ ap l (h.0 x) ∙ sym q, λ e. h.1 (one s t (sym p ∙ e ∙ q)))

pub through_same : (b : Bool) (s t la lb : Shape) → la ≡ s → lb ≡ t → IsTrue b ↔ (s ≡ t) → IsTrue b ↔ (la ≡ lb)
through_same b s t la lb p q h = through (λ s. s) (λ s t e. e) b s t la lb p q h

pub one_type : (s t : Shape) → type_of s ≡ type_of t → s ≡ t
one_type s t e = cc e

pub one_borrow : (s t : Shape) → borrow_of s ≡ borrow_of t → s ≡ t
one_borrow s t e = cc e

pub one_own : (s t : Shape) → own_of s ≡ own_of t → s ≡ t
one_own s t e = cc e

-- ---- sorts of value types

pub data ValueSort : Type 0 where
  of_primitive : ValueSort
  of_borrow : ValueSort
  of_own : ValueSort
  of_defined : ValueSort

abbrev pub value_sort : ValueType → ValueSort
value_sort (ValueType.Primitive p) = of_primitive
value_sort (ValueType.Borrow r) = of_borrow
value_sort (ValueType.Own r) = of_own
value_sort (ValueType.Defined d) = of_defined

abbrev shape_sort : Shape → ValueSort
shape_sort (primitive p) = of_primitive
shape_sort (borrow_of s) = of_borrow
shape_sort (own_of s) = of_own
shape_sort s = of_defined

defined_sort : (x : DefinedType) → shape_sort (defined_entry x).0 ≡ of_defined
defined_sort (DefinedType.Tuple ts) = refl
defined_sort (DefinedType.List t) = refl
defined_sort (DefinedType.FixedSizeList t n) = refl
defined_sort (DefinedType.Option t) = refl
defined_sort (DefinedType.Result ok err) = refl
defined_sort (DefinedType.Variant v) = refl
defined_sort (DefinedType.Record r) = refl
defined_sort (DefinedType.Flags f) = refl
defined_sort (DefinedType.Enum e) = refl
defined_sort (DefinedType.Alias t) = refl
defined_sort (DefinedType.Stream o) = refl
defined_sort (DefinedType.Future o) = refl

pub not_primitive : (v : ValueType) → ((x : PrimitiveType) → v ≡ ValueType.Primitive x → ⊥) → value_sort v ≡ of_primitive → ⊥
not_primitive (ValueType.Primitive x) h e = h x refl
not_primitive (ValueType.Borrow x) h e = cc e
not_primitive (ValueType.Own x) h e = cc e
not_primitive (ValueType.Defined x) h e = cc e

pub not_borrow : (v : ValueType) → ((x : ResourceId) → v ≡ ValueType.Borrow x → ⊥) → value_sort v ≡ of_borrow → ⊥
not_borrow (ValueType.Primitive x) h e = cc e
not_borrow (ValueType.Borrow x) h e = h x refl
not_borrow (ValueType.Own x) h e = cc e
not_borrow (ValueType.Defined x) h e = cc e

pub not_own : (v : ValueType) → ((x : ResourceId) → v ≡ ValueType.Own x → ⊥) → value_sort v ≡ of_own → ⊥
not_own (ValueType.Primitive x) h e = cc e
not_own (ValueType.Borrow x) h e = cc e
not_own (ValueType.Own x) h e = h x refl
not_own (ValueType.Defined x) h e = cc e

pub not_defined : (v : ValueType) → ((x : DefinedTypeId) → v ≡ ValueType.Defined x → ⊥) → value_sort v ≡ of_defined → ⊥
not_defined (ValueType.Primitive x) h e = cc e
not_defined (ValueType.Borrow x) h e = cc e
not_defined (ValueType.Own x) h e = cc e
not_defined (ValueType.Defined x) h e = h x refl

-- ---- kinds of items

pub type_not_resource : (t : TypeKind) → ((x : ResourceId) → t ≡ TypeKind.Resource x → ⊥) → item_kind (ItemKind.Ty t) ≡ IsResource → ⊥
type_not_resource (TypeKind.Resource x) h e = h x refl
type_not_resource (TypeKind.Func x) h e = cc e
type_not_resource (TypeKind.Value x) h e = cc e
type_not_resource (TypeKind.Interface x) h e = cc e
type_not_resource (TypeKind.World x) h e = cc e
type_not_resource (TypeKind.Module x) h e = cc e

pub type_not_func : (t : TypeKind) → ((x : FuncTypeId) → t ≡ TypeKind.Func x → ⊥) → item_kind (ItemKind.Ty t) ≡ IsFunctionType → ⊥
type_not_func (TypeKind.Resource x) h e = cc e
type_not_func (TypeKind.Func x) h e = h x refl
type_not_func (TypeKind.Value x) h e = cc e
type_not_func (TypeKind.Interface x) h e = cc e
type_not_func (TypeKind.World x) h e = cc e
type_not_func (TypeKind.Module x) h e = cc e

pub type_not_value : (t : TypeKind) → ((x : ValueType) → t ≡ TypeKind.Value x → ⊥) → item_kind (ItemKind.Ty t) ≡ IsValueType → ⊥
type_not_value (TypeKind.Resource x) h e = cc e
type_not_value (TypeKind.Func x) h e = cc e
type_not_value (TypeKind.Value x) h e = h x refl
type_not_value (TypeKind.Interface x) h e = cc e
type_not_value (TypeKind.World x) h e = cc e
type_not_value (TypeKind.Module x) h e = cc e

pub type_not_interface : (t : TypeKind) → ((x : InterfaceId) → t ≡ TypeKind.Interface x → ⊥) → item_kind (ItemKind.Ty t) ≡ IsInterface → ⊥
type_not_interface (TypeKind.Resource x) h e = cc e
type_not_interface (TypeKind.Func x) h e = cc e
type_not_interface (TypeKind.Value x) h e = cc e
type_not_interface (TypeKind.Interface x) h e = h x refl
type_not_interface (TypeKind.World x) h e = cc e
type_not_interface (TypeKind.Module x) h e = cc e

pub type_not_world : (t : TypeKind) → ((x : WorldId) → t ≡ TypeKind.World x → ⊥) → item_kind (ItemKind.Ty t) ≡ IsWorld → ⊥
type_not_world (TypeKind.Resource x) h e = cc e
type_not_world (TypeKind.Func x) h e = cc e
type_not_world (TypeKind.Value x) h e = cc e
type_not_world (TypeKind.Interface x) h e = cc e
type_not_world (TypeKind.World x) h e = h x refl
type_not_world (TypeKind.Module x) h e = cc e

pub type_not_module : (t : TypeKind) → ((x : ModuleTypeId) → t ≡ TypeKind.Module x → ⊥) → item_kind (ItemKind.Ty t) ≡ IsModuleType → ⊥
type_not_module (TypeKind.Resource x) h e = cc e
type_not_module (TypeKind.Func x) h e = cc e
type_not_module (TypeKind.Value x) h e = cc e
type_not_module (TypeKind.Interface x) h e = cc e
type_not_module (TypeKind.World x) h e = cc e
type_not_module (TypeKind.Module x) h e = h x refl

-- ---- labels of entries

module _ (c : Collection) where
  pub resource_label : (id : ResourceId) (x : Resource) → slice_get c.resources id.index ≡ Some x → id.collection ≡ c.number → label_of c (ItemKind.Ty (TypeKind.Resource id)) ≡ (resource_entry x).0
  unfolding item_node
  resource_label id x at own = ap (λ o. label_in o) (entry_at-is resource_entry c.number c.resources id.collection id.index x at own)

  pub borrow_label : (id : ResourceId) (x : Resource) → slice_get c.resources id.index ≡ Some x → id.collection ≡ c.number → label_of c (ItemKind.Value (ValueType.Borrow id)) ≡ borrow_of (resource_entry x).0
  unfolding item_node
  borrow_label id x at own = ap (λ o. label_in (labelled borrow_of o)) (entry_at-is resource_entry c.number c.resources id.collection id.index x at own)

  pub own_label : (id : ResourceId) (x : Resource) → slice_get c.resources id.index ≡ Some x → id.collection ≡ c.number → label_of c (ItemKind.Value (ValueType.Own id)) ≡ own_of (resource_entry x).0
  unfolding item_node
  own_label id x at own = ap (λ o. label_in (labelled own_of o)) (entry_at-is resource_entry c.number c.resources id.collection id.index x at own)

  pub defined_label : (id : DefinedTypeId) (x : DefinedType) → slice_get c.defined_types id.index ≡ Some x → id.collection ≡ c.number → label_of c (ItemKind.Value (ValueType.Defined id)) ≡ (defined_entry x).0
  unfolding item_node
  defined_label id x at own = ap (λ o. label_in o) (entry_at-is defined_entry c.number c.defined_types id.collection id.index x at own)

  pub func_label : (id : FuncTypeId) (x : FuncType) → slice_get c.func_types id.index ≡ Some x → id.collection ≡ c.number → label_of c (ItemKind.Func id) ≡ (func_entry x).0
  unfolding item_node
  func_label id x at own = ap (λ o. label_in o) (entry_at-is func_entry c.number c.func_types id.collection id.index x at own)

  pub instance_label : (id : InterfaceId) (x : Interface) → slice_get c.interfaces id.index ≡ Some x → id.collection ≡ c.number → label_of c (ItemKind.Instance id) ≡ (interface_entry x).0
  unfolding item_node
  instance_label id x at own = ap (λ o. label_in o) (entry_at-is interface_entry c.number c.interfaces id.collection id.index x at own)

  pub component_label : (id : WorldId) (x : World) → slice_get c.worlds id.index ≡ Some x → id.collection ≡ c.number → label_of c (ItemKind.Component id) ≡ (world_entry x).0
  unfolding item_node
  component_label id x at own = ap (λ o. label_in o) (entry_at-is world_entry c.number c.worlds id.collection id.index x at own)

  pub module_label : (id : ModuleTypeId) (x : ModuleType) → slice_get c.modules id.index ≡ Some x → id.collection ≡ c.number → label_of c (ItemKind.Module id) ≡ (module_entry x).0
  unfolding item_node
  module_label id x at own = ap (λ o. label_in o) (entry_at-is module_entry c.number c.modules id.collection id.index x at own)

  pub typed_func_label : (id : FuncTypeId) (x : FuncType) → slice_get c.func_types id.index ≡ Some x → id.collection ≡ c.number → label_of c (ItemKind.Ty (TypeKind.Func id)) ≡ type_of (func_entry x).0
  unfolding item_node
  typed_func_label id x at own = ap (λ o. label_in (labelled type_of o)) (entry_at-is func_entry c.number c.func_types id.collection id.index x at own)

  pub typed_interface_label : (id : InterfaceId) (x : Interface) → slice_get c.interfaces id.index ≡ Some x → id.collection ≡ c.number → label_of c (ItemKind.Ty (TypeKind.Interface id)) ≡ type_of (interface_entry x).0
  unfolding item_node
  typed_interface_label id x at own = ap (λ o. label_in (labelled type_of o)) (entry_at-is interface_entry c.number c.interfaces id.collection id.index x at own)

  pub typed_world_label : (id : WorldId) (x : World) → slice_get c.worlds id.index ≡ Some x → id.collection ≡ c.number → label_of c (ItemKind.Ty (TypeKind.World id)) ≡ type_of (world_entry x).0
  unfolding item_node
  typed_world_label id x at own = ap (λ o. label_in (labelled type_of o)) (entry_at-is world_entry c.number c.worlds id.collection id.index x at own)

  pub typed_module_label : (id : ModuleTypeId) (x : ModuleType) → slice_get c.modules id.index ≡ Some x → id.collection ≡ c.number → label_of c (ItemKind.Ty (TypeKind.Module id)) ≡ type_of (module_entry x).0
  unfolding item_node
  typed_module_label id x at own = ap (λ o. label_in (labelled type_of o)) (entry_at-is module_entry c.number c.modules id.collection id.index x at own)

  pub typed_value_label : (v : ValueType) → Stands c (ItemKind.Ty (TypeKind.Value v)) → label_of c (ItemKind.Ty (TypeKind.Value v)) ≡ type_of (label_of c (ItemKind.Value v))
  unfolding item_node
  typed_value_label v s =
      let e = value_of _ (stands_typed_value c v s) in
      ap (λ o. label_in (labelled type_of o)) e.1 ∙ ap (λ o. type_of (label_in o)) (sym e.1)

  -- ---- kinds

  label_kinds : (k : ItemKind) → Stands c k → shape_kind (label_of c k) ≡ item_kind k
  label_kinds k s = let e = value_of _ s in ap (λ o. shape_kind (label_in o)) e.1 ∙ label_kind c k e.0 e.1

  module _ (a b : ItemKind) (s : Stands c a) (r : Stands c b) where
    pub item_other : (k : Kind) → item_kind a ≡ k → (item_kind b ≡ k → ⊥) → IsTrue false ↔ (label_of c a ≡ label_of c b)
    item_other k e h = said_no false (label_of c a ≡ label_of c b) refl (λ q. h (sym (label_kinds b r) ∙ ap shape_kind (sym q) ∙ label_kinds a s ∙ e))

    pub type_other : is_type (item_kind a) ≡ true → (is_type (item_kind b) ≡ true → ⊥) → IsTrue false ↔ (label_of c a ≡ label_of c b)
    type_other e h = said_no false (label_of c a ≡ label_of c b) refl (λ q. h (ap (λ k. is_type k) (sym (label_kinds b r) ∙ ap shape_kind (sym q) ∙ label_kinds a s) ∙ e))

  -- ---- value types

  value_sorted : (v : ValueType) → Stands c (ItemKind.Value v) → shape_sort (label_of c (ItemKind.Value v)) ≡ value_sort v
  unfolding item_node
  value_sorted (ValueType.Primitive p) s = refl
  value_sorted (ValueType.Borrow r) s = let f = resource_found c r (stands_borrow c r s) in ap shape_sort (borrow_label r f.value f.at f.own)
  value_sorted (ValueType.Own r) s = let f = resource_found c r (stands_own c r s) in ap shape_sort (own_label r f.value f.at f.own)
  value_sorted (ValueType.Defined d) s = let f = defined_found c d s in ap shape_sort (defined_label d f.value f.at f.own) ∙ defined_sort f.value

  pub value_other : (a b : ValueType) → Stands c (ItemKind.Value a) → Stands c (ItemKind.Value b) → (k : ValueSort) → value_sort a ≡ k → (value_sort b ≡ k → ⊥) → IsTrue false ↔ (label_of c (ItemKind.Value a) ≡ label_of c (ItemKind.Value b))
  value_other a b s r k e h = said_no false (label_of c (ItemKind.Value a) ≡ label_of c (ItemKind.Value b)) refl (λ q. h (sym (value_sorted b r) ∙ ap shape_sort (sym q) ∙ value_sorted a s ∙ e))

  pub primitive_label : (p : PrimitiveType) → label_of c (ItemKind.Value (ValueType.Primitive p)) ≡ primitive p
  unfolding item_node
  primitive_label p = refl

  same_primitive : (p q : PrimitiveType) → ItemKind.Value (ValueType.Primitive p) ≡ ItemKind.Value (ValueType.Primitive q) → primitive p ≡ primitive q
  same_primitive p q e = cc e

  primitive_same : (p q : PrimitiveType) → primitive p ≡ primitive q → ItemKind.Value (ValueType.Primitive p) ≡ ItemKind.Value (ValueType.Primitive q)
  primitive_same p q e = cc e

  pub primitives_decided : (a b : ValueType) (p q : PrimitiveType) (t : Bool) → a ≡ ValueType.Primitive p → b ≡ ValueType.Primitive q → IsTrue t ↔ (ItemKind.Value a ≡ ItemKind.Value b) → IsTrue t ↔ (label_of c (ItemKind.Value a) ≡ label_of c (ItemKind.Value b))
  primitives_decided a b p q t e f h = (
    λ x. ap (λ v. label_of c (ItemKind.Value v)) e ∙ primitive_label p ∙ same_primitive p q (ap ItemKind.Value (sym e) ∙ h.0 x ∙ ap ItemKind.Value f) ∙ sym (primitive_label q) ∙ ap (λ v. label_of c (ItemKind.Value v)) (sym f),
    λ x. h.1 (ap ItemKind.Value e ∙ primitive_same p q (sym (primitive_label p) ∙ ap (λ v. label_of c (ItemKind.Value v)) (sym e) ∙ x ∙ ap (λ v. label_of c (ItemKind.Value v)) f ∙ primitive_label q) ∙ ap ItemKind.Value (sym f)),
  )
