-- Trees of different kinds never fit.
use Rattle.std.proofs.Common.{◌≡◌, ℕ, zero, suc, ◌<◌, [], Option, Some, None, Bool, true, false, slice_get, refl, sym, ap, subst, ◌∙◌, arith}
use Rattle.wac_types_base.specs.declared.item.ValueType.{ValueType}
use Rattle.wac_types_base.specs.declared.item.«Type».{«Type» as TypeKind}
use Rattle.wac_types_base.specs.declared.item.ItemKind.{ItemKind}
use Rattle.wac_types_base.specs.declared.defined.DefinedType.{DefinedType}
use Rattle.wac_types_base.specs.declared.defined.Resource.{Resource}
use Rattle.wac_types_base.specs.declared.defined.ResourceAlias.{ResourceAlias}
use Rattle.wac_types_base.specs.declared.ids.DefinedTypeId.{DefinedTypeId}
use Rattle.wac_types_base.specs.declared.ids.ResourceId.{ResourceId}
use Rattle.wac_types_base.specs.declared.ids.FuncTypeId.{FuncTypeId}
use Rattle.wac_types_base.specs.declared.ids.InterfaceId.{InterfaceId}
use Rattle.wac_types_base.specs.declared.ids.WorldId.{WorldId}
use Rattle.wac_types_base.specs.declared.ids.ModuleTypeId.{ModuleTypeId}
use Rattle.wac_types_base.specs.Record.{Collection}
use Rattle.wac_types_base.specs.Collection.{Shape, Stands, IsAcyclic, size_of, func, resource}
use Rattle.wac_types_base.specs.Stated.{Kind, IsFunction, IsInstance, IsComponent, IsModule, IsValue, IsResource, IsFunctionType, IsValueType, IsInterface, IsWorld, IsModuleType}
use Rattle.wac_types_base.specs.Entries.{Name}
use Rattle.wac_types_base.specs.Tree.{Tree, rigid, instance, component, core_module, handle_own, handle_borrow, type_item, end}
use Rattle.wac_types_base.specs.Fits.{Fits, rigid_fits, own_fits, borrow_fits, instance_fits, component_fits, module_fits, type_fits}
use Rattle.wac_types_base.proofs.Slots.{stands_typed_func, stands_typed_value, stands_typed_interface, stands_typed_world, stands_typed_module}
use Rattle.wac_types_base.proofs.Standing.{defined_found, resource_found, func_found, interface_found, world_found, module_found}
use Rattle.wac_types_base.proofs.Telling.{item_kind, value_source, resource_source}
use Rattle.wac_types_fit.specs.Frames.{Disagree, ends, in_type}
use Rattle.wac_types_fit.specs.Trees.{tree_in}
use Rattle.wac_types_fit.specs.Checking.{IsFlat}
use Rattle.wac_types_fit.proofs.Unfolded.{primitive_tree, own_tree, borrow_tree, defined_tree, alias_tree, root_tree, source_tree, func_tree, instance_tree, component_tree, module_tree, type_func, type_value, type_interface, type_world, type_module}

-- the kind of the type of a thing
abbrev typed : Kind → Kind
typed IsFunction = IsFunctionType
typed IsInstance = IsInterface
typed IsComponent = IsWorld
typed IsModule = IsModuleType
typed k = IsValueType

abbrev rigid_kind : Shape → Kind
rigid_kind (func ps a) = IsFunction
rigid_kind (resource n) = IsResource
rigid_kind s = IsValue

-- the kind of an item with this tree
abbrev pub tree_kind : Tree → Kind
tree_kind (rigid s r) = rigid_kind s
tree_kind (instance xs) = IsInstance
tree_kind (component is es) = IsComponent
tree_kind (core_module is es) = IsModule
tree_kind (handle_own t) = IsValue
tree_kind (handle_borrow t) = IsValue
tree_kind (type_item t) = typed (tree_kind t)

-- what fits has the same kind
pub fits_kind : (t u : Tree) → Fits t u → tree_kind t ≡ tree_kind u
fits_kind (rigid s r) u rigid_fits = refl
fits_kind (handle_own t) u own_fits = refl
fits_kind (handle_borrow t) u borrow_fits = refl
fits_kind (instance xs) u (instance_fits f) = refl
fits_kind (component is es) u (component_fits f g) = refl
fits_kind (core_module is es) u (module_fits f g) = refl
fits_kind (type_item t) u (type_fits {u = v} f) = ap typed (fits_kind t v f)

not_both : (t u : Tree) → (tree_kind t ≡ tree_kind u → ⊥) → Fits t u → ⊥
not_both t u h f = h (fits_kind t u f)

-- trees of different kinds disagree
pub other_kind : (t u : Tree) → (tree_kind t ≡ tree_kind u → ⊥) → Disagree [] t u
other_kind (type_item t) (type_item u) h = in_type (other_kind t u (λ e. h (ap typed e)))
other_kind (instance xs) (instance ys) h = absurd (h refl)
other_kind (component is es) (component js fs) h = absurd (h refl)
other_kind (core_module is es) (core_module js fs) h = absurd (h refl)
other_kind t u h = ends tt (not_both t u h)

abbrev pub is_type : Kind → Bool
is_type IsFunction = false
is_type IsInstance = false
is_type IsComponent = false
is_type IsModule = false
is_type IsValue = false
is_type k = true

typed_is_type : (k : Kind) → is_type (typed k) ≡ true
typed_is_type IsFunction = refl
typed_is_type IsInstance = refl
typed_is_type IsComponent = refl
typed_is_type IsModule = refl
typed_is_type IsValue = refl
typed_is_type IsResource = refl
typed_is_type IsFunctionType = refl
typed_is_type IsValueType = refl
typed_is_type IsInterface = refl
typed_is_type IsWorld = refl
typed_is_type IsModuleType = refl

no_thing : (t : Tree) (k : Kind) → is_type k ≡ false → typed (tree_kind t) ≡ k → ⊥
no_thing t k h e = absurd (cc (typed_is_type (tree_kind t), ap is_type e, h))

-- a tree without parts that could fit otherwise
abbrev pub IsFlatTree : Tree → Type 0
IsFlatTree (rigid s r) = Unit {0}
IsFlatTree (instance xs) = ⊥
IsFlatTree (component is es) = ⊥
IsFlatTree (core_module is es) = ⊥
IsFlatTree (handle_own t) = Unit {0}
IsFlatTree (handle_borrow t) = Unit {0}
IsFlatTree (type_item t) = IsFlatTree t

-- what fits a flat tree is that tree
pub flat_fits : (t u : Tree) → IsFlatTree u → Fits t u → t ≡ u
flat_fits t u f rigid_fits = refl
flat_fits t u f own_fits = refl
flat_fits t u f borrow_fits = refl
flat_fits t u f (instance_fits g) = absurd f
flat_fits t u f (component_fits g h) = absurd f
flat_fits t u f (module_fits g h) = absurd f
flat_fits t u f (type_fits {t = v} {u = x} g) = ap type_item (flat_fits v x f g)

function_flat : (t : Tree) → tree_kind t ≡ IsFunction → IsFlatTree t
function_flat (rigid s r) e = tt
function_flat (handle_own t) e = tt
function_flat (handle_borrow t) e = tt
function_flat (type_item t) e = absurd (no_thing t IsFunction refl e)
function_flat (instance xs) e = absurd (cc e)
function_flat (component is es) e = absurd (cc e)
function_flat (core_module is es) e = absurd (cc e)

value_flat : (t : Tree) → tree_kind t ≡ IsValue → IsFlatTree t
value_flat (rigid s r) e = tt
value_flat (handle_own t) e = tt
value_flat (handle_borrow t) e = tt
value_flat (type_item t) e = absurd (no_thing t IsValue refl e)
value_flat (instance xs) e = absurd (cc e)
value_flat (component is es) e = absurd (cc e)
value_flat (core_module is es) e = absurd (cc e)

-- there only equal trees fit
pub fits_flat : (t u : Tree) → IsFlatTree t → Fits t u → t ≡ u
fits_flat (rigid s r) u f rigid_fits = refl
fits_flat (handle_own t) u f own_fits = refl
fits_flat (handle_borrow t) u f borrow_fits = refl
fits_flat (instance xs) u f g = absurd f
fits_flat (component is es) u f g = absurd f
fits_flat (core_module is es) u f g = absurd f
fits_flat (type_item t) u f (type_fits {u = v} g) = ap type_item (fits_flat t v f g)

flat_differ : (t u : Tree) → IsFlatTree t → (t ≡ u → ⊥) → Disagree [] t u
flat_differ (rigid s r) u f h = ends tt (λ g. h (fits_flat (rigid s r) u f g))
flat_differ (handle_own t) u f h = ends tt (λ g. h (fits_flat (handle_own t) u f g))
flat_differ (handle_borrow t) u f h = ends tt (λ g. h (fits_flat (handle_borrow t) u f g))
flat_differ (instance xs) u f h = absurd f
flat_differ (component is es) u f h = absurd f
flat_differ (core_module is es) u f h = absurd f
flat_differ (type_item t) (type_item u) f h = in_type (flat_differ t u f (λ e. h (ap type_item e)))
flat_differ (type_item t) u f h = ends tt (λ g. h (fits_flat (type_item t) u f g))

module _ (c : Collection) (acyclic : IsAcyclic c) where
  value_entry_kind : (d : DefinedTypeId) (x : DefinedType) → slice_get c.defined_types d.index ≡ Some x → d.collection ≡ c.number
      → ((t : ValueType) → Stands c (ItemKind.Value t) → size_of c (ItemKind.Value t) < size_of c (ItemKind.Value (ValueType.Defined d)) → tree_kind (tree_in c (ItemKind.Value t)) ≡ IsValue)
      → tree_kind (tree_in c (ItemKind.Value (ValueType.Defined d))) ≡ IsValue
  value_entry_kind d (DefinedType.Tuple ts) at own h = ap tree_kind (defined_tree c acyclic d (DefinedType.Tuple ts) at own)
  value_entry_kind d (DefinedType.List t) at own h = ap tree_kind (defined_tree c acyclic d (DefinedType.List t) at own)
  value_entry_kind d (DefinedType.FixedSizeList t n) at own h = ap tree_kind (defined_tree c acyclic d (DefinedType.FixedSizeList t n) at own)
  value_entry_kind d (DefinedType.Option t) at own h = ap tree_kind (defined_tree c acyclic d (DefinedType.Option t) at own)
  value_entry_kind d (DefinedType.Result ok err) at own h = ap tree_kind (defined_tree c acyclic d (DefinedType.Result ok err) at own)
  value_entry_kind d (DefinedType.Variant v) at own h = ap tree_kind (defined_tree c acyclic d (DefinedType.Variant v) at own)
  value_entry_kind d (DefinedType.Record r) at own h = ap tree_kind (defined_tree c acyclic d (DefinedType.Record r) at own)
  value_entry_kind d (DefinedType.Flags f) at own h = ap tree_kind (defined_tree c acyclic d (DefinedType.Flags f) at own)
  value_entry_kind d (DefinedType.Enum e) at own h = ap tree_kind (defined_tree c acyclic d (DefinedType.Enum e) at own)
  value_entry_kind d (DefinedType.Alias t) at own h =
      let s = value_source c acyclic (ValueType.Defined d) d (DefinedType.Alias t) t refl at own refl in
      ap tree_kind (alias_tree c acyclic d t at own) ∙ h t s.0 s.1
  value_entry_kind d (DefinedType.Stream o) at own h = ap tree_kind (defined_tree c acyclic d (DefinedType.Stream o) at own)
  value_entry_kind d (DefinedType.Future o) at own h = ap tree_kind (defined_tree c acyclic d (DefinedType.Future o) at own)

  value_kind : (n : ℕ) (v : ValueType) → size_of c (ItemKind.Value v) < n → Stands c (ItemKind.Value v) → tree_kind (tree_in c (ItemKind.Value v)) ≡ IsValue
  value_kind zero v lt s = absurd (omega arith)
  value_kind (suc n) (ValueType.Primitive p) lt s = ap tree_kind (primitive_tree c acyclic p)
  value_kind (suc n) (ValueType.Borrow r) lt s = ap tree_kind (borrow_tree c acyclic r s)
  value_kind (suc n) (ValueType.Own r) lt s = ap tree_kind (own_tree c acyclic r s)
  value_kind (suc n) (ValueType.Defined d) lt s =
      let f = defined_found c d s in
      value_entry_kind d f.value f.at f.own (λ t p q. value_kind n t (omega arith) p)

  resource_by_alias : (r : ResourceId) (x : Resource) (o : Option ResourceAlias) → slice_get c.resources r.index ≡ Some x → r.collection ≡ c.number → x.alias ≡ o
      → ((t : ResourceId) → Stands c (ItemKind.Ty (TypeKind.Resource t)) → size_of c (ItemKind.Ty (TypeKind.Resource t)) < size_of c (ItemKind.Ty (TypeKind.Resource r)) → (n : Name) × (tree_in c (ItemKind.Ty (TypeKind.Resource t)) ≡ rigid (resource n) end))
      → (n : Name) × (tree_in c (ItemKind.Ty (TypeKind.Resource r)) ≡ rigid (resource n) end)
  resource_by_alias r x None at own is h = (x.name, root_tree c acyclic r x at own is)
  resource_by_alias r x (Some b) at own is h =
      let s = resource_source c acyclic r x b at own is in
      let i = h b.source s.0 s.1 in
      (i.0, source_tree c acyclic r x b at own is ∙ i.1)

  resource_by_size : (n : ℕ) (r : ResourceId) → size_of c (ItemKind.Ty (TypeKind.Resource r)) < n → Stands c (ItemKind.Ty (TypeKind.Resource r)) → (n : Name) × (tree_in c (ItemKind.Ty (TypeKind.Resource r)) ≡ rigid (resource n) end)
  resource_by_size zero r lt s = absurd (omega arith)
  resource_by_size (suc n) r lt s =
      let f = resource_found c r s in
      resource_by_alias r f.value f.value.alias f.at f.own refl (λ t p q. resource_by_size n t (omega arith) p)

  -- a resource is the one at the end of its aliases
  pub resource_is : (r : ResourceId) → Stands c (ItemKind.Ty (TypeKind.Resource r)) → (n : Name) × (tree_in c (ItemKind.Ty (TypeKind.Resource r)) ≡ rigid (resource n) end)
  resource_is r s = resource_by_size (suc (size_of c (ItemKind.Ty (TypeKind.Resource r)))) r (omega arith) s

  value_is : (v : ValueType) → Stands c (ItemKind.Value v) → tree_kind (tree_in c (ItemKind.Value v)) ≡ IsValue
  value_is v s = value_kind (suc (size_of c (ItemKind.Value v))) v (omega arith) s

  func_is : (f : FuncTypeId) → Stands c (ItemKind.Func f) → tree_kind (tree_in c (ItemKind.Func f)) ≡ IsFunction
  func_is f s = let x = func_found c f s in ap tree_kind (func_tree c acyclic f x.value x.at x.own)

  instance_is : (f : InterfaceId) → Stands c (ItemKind.Instance f) → tree_kind (tree_in c (ItemKind.Instance f)) ≡ IsInstance
  instance_is f s = let x = interface_found c f s in ap tree_kind (instance_tree c acyclic f x.value x.at x.own)

  component_is : (f : WorldId) → Stands c (ItemKind.Component f) → tree_kind (tree_in c (ItemKind.Component f)) ≡ IsComponent
  component_is f s = let x = world_found c f s in ap tree_kind (component_tree c acyclic f x.value x.at x.own)

  module_is : (f : ModuleTypeId) → Stands c (ItemKind.Module f) → tree_kind (tree_in c (ItemKind.Module f)) ≡ IsModule
  module_is f s = let x = module_found c f s in ap tree_kind (module_tree c acyclic f x.value x.at x.own)

  -- the tree of what stands is of its kind
  pub kind_is : (k : ItemKind) → Stands c k → tree_kind (tree_in c k) ≡ item_kind k
  kind_is (ItemKind.Ty (TypeKind.Resource r)) s = ap tree_kind (resource_is r s).1
  kind_is (ItemKind.Ty (TypeKind.Func f)) s = ap tree_kind (type_func c acyclic f s) ∙ ap typed (func_is f (stands_typed_func c f s))
  kind_is (ItemKind.Ty (TypeKind.Value v)) s = ap tree_kind (type_value c acyclic v s) ∙ ap typed (value_is v (stands_typed_value c v s))
  kind_is (ItemKind.Ty (TypeKind.Interface f)) s = ap tree_kind (type_interface c acyclic f s) ∙ ap typed (instance_is f (stands_typed_interface c f s))
  kind_is (ItemKind.Ty (TypeKind.World f)) s = ap tree_kind (type_world c acyclic f s) ∙ ap typed (component_is f (stands_typed_world c f s))
  kind_is (ItemKind.Ty (TypeKind.Module f)) s = ap tree_kind (type_module c acyclic f s) ∙ ap typed (module_is f (stands_typed_module c f s))
  kind_is (ItemKind.Func f) s = func_is f s
  kind_is (ItemKind.Instance f) s = instance_is f s
  kind_is (ItemKind.Component f) s = component_is f s
  kind_is (ItemKind.Module f) s = module_is f s
  kind_is (ItemKind.Value v) s = value_is v s

  -- the tree of a function, a value or a resource, or of the type of a function or value
  pub flat_is : (k : ItemKind) → IsFlat k → Stands c k → IsFlatTree (tree_in c k)
  flat_is (ItemKind.Ty (TypeKind.Resource r)) f s = subst IsFlatTree (sym (resource_is r s).1) tt
  flat_is (ItemKind.Ty (TypeKind.Func g)) f s = subst IsFlatTree (sym (type_func c acyclic g s)) (function_flat (tree_in c (ItemKind.Func g)) (func_is g (stands_typed_func c g s)))
  flat_is (ItemKind.Ty (TypeKind.Value v)) f s = subst IsFlatTree (sym (type_value c acyclic v s)) (value_flat (tree_in c (ItemKind.Value v)) (value_is v (stands_typed_value c v s)))
  flat_is (ItemKind.Ty (TypeKind.Interface g)) f s = absurd f
  flat_is (ItemKind.Ty (TypeKind.World g)) f s = absurd f
  flat_is (ItemKind.Ty (TypeKind.Module g)) f s = absurd f
  flat_is (ItemKind.Func g) f s = function_flat (tree_in c (ItemKind.Func g)) (func_is g s)
  flat_is (ItemKind.Instance g) f s = absurd f
  flat_is (ItemKind.Component g) f s = absurd f
  flat_is (ItemKind.Module g) f s = absurd f
  flat_is (ItemKind.Value v) f s = value_flat (tree_in c (ItemKind.Value v)) (value_is v s)

-- an item without parts disagrees with what has another tree
pub flat_disagree : (c d : Collection) → IsAcyclic c → (j k : ItemKind) → IsFlat j → Stands c j → (tree_in c j ≡ tree_in d k → ⊥) → Disagree [] (tree_in c j) (tree_in d k)
flat_disagree c d a j k f s h = flat_differ (tree_in c j) (tree_in d k) (flat_is c a j f s) h

-- kinds that stand and differ disagree
pub kinds_disagree : (c d : Collection) → IsAcyclic c → IsAcyclic d → (j k : ItemKind) → Stands c j → Stands d k → (item_kind j ≡ item_kind k → ⊥) → Disagree [] (tree_in c j) (tree_in d k)
kinds_disagree c d a b j k s r h = other_kind (tree_in c j) (tree_in d k) (λ e. h (sym (kind_is c a j s) ∙ e ∙ kind_is d b k r))

-- ---- kinds of ids

pub types_are_types : (t : TypeKind) → is_type (item_kind (ItemKind.Ty t)) ≡ true
types_are_types (TypeKind.Resource r) = refl
types_are_types (TypeKind.Func r) = refl
types_are_types (TypeKind.Value r) = refl
types_are_types (TypeKind.Interface r) = refl
types_are_types (TypeKind.World r) = refl
types_are_types (TypeKind.Module r) = refl

no_type : (t : TypeKind) (k : Kind) → is_type k ≡ false → item_kind (ItemKind.Ty t) ≡ k → ⊥
no_type t k h e = absurd (cc (types_are_types t, ap is_type e, h))

pub not_func : (k : ItemKind) → ((f : FuncTypeId) → k ≡ ItemKind.Func f → ⊥) → item_kind k ≡ IsFunction → ⊥
not_func (ItemKind.Func f) h e = h f refl
not_func (ItemKind.Ty t) h e = no_type t IsFunction refl e
not_func k h e = absurd (cc e)

pub not_instance : (k : ItemKind) → ((f : InterfaceId) → k ≡ ItemKind.Instance f → ⊥) → item_kind k ≡ IsInstance → ⊥
not_instance (ItemKind.Instance f) h e = h f refl
not_instance (ItemKind.Ty t) h e = no_type t IsInstance refl e
not_instance k h e = absurd (cc e)

pub not_component : (k : ItemKind) → ((f : WorldId) → k ≡ ItemKind.Component f → ⊥) → item_kind k ≡ IsComponent → ⊥
not_component (ItemKind.Component f) h e = h f refl
not_component (ItemKind.Ty t) h e = no_type t IsComponent refl e
not_component k h e = absurd (cc e)

pub not_module : (k : ItemKind) → ((f : ModuleTypeId) → k ≡ ItemKind.Module f → ⊥) → item_kind k ≡ IsModule → ⊥
not_module (ItemKind.Module f) h e = h f refl
not_module (ItemKind.Ty t) h e = no_type t IsModule refl e
not_module k h e = absurd (cc e)

pub not_value : (k : ItemKind) → ((f : ValueType) → k ≡ ItemKind.Value f → ⊥) → item_kind k ≡ IsValue → ⊥
not_value (ItemKind.Value f) h e = h f refl
not_value (ItemKind.Ty t) h e = no_type t IsValue refl e
not_value k h e = absurd (cc e)

pub not_type : (k : ItemKind) → ((t : TypeKind) → k ≡ ItemKind.Ty t → ⊥) → is_type (item_kind k) ≡ true → ⊥
not_type (ItemKind.Ty t) h e = h t refl
not_type k h e = absurd (cc e)

module _ (c d : Collection) (a : IsAcyclic c) (b : IsAcyclic d) (j k : ItemKind) (s : Stands c j) (r : Stands d k) where
  pub other_func : (f : FuncTypeId) → j ≡ ItemKind.Func f → ((g : FuncTypeId) → k ≡ ItemKind.Func g → ⊥) → Disagree [] (tree_in c j) (tree_in d k)
  other_func f is h = kinds_disagree c d a b j k s r (λ e. not_func k h (sym e ∙ ap item_kind is))

  pub other_instance : (f : InterfaceId) → j ≡ ItemKind.Instance f → ((g : InterfaceId) → k ≡ ItemKind.Instance g → ⊥) → Disagree [] (tree_in c j) (tree_in d k)
  other_instance f is h = kinds_disagree c d a b j k s r (λ e. not_instance k h (sym e ∙ ap item_kind is))

  pub other_component : (f : WorldId) → j ≡ ItemKind.Component f → ((g : WorldId) → k ≡ ItemKind.Component g → ⊥) → Disagree [] (tree_in c j) (tree_in d k)
  other_component f is h = kinds_disagree c d a b j k s r (λ e. not_component k h (sym e ∙ ap item_kind is))

  pub other_module : (f : ModuleTypeId) → j ≡ ItemKind.Module f → ((g : ModuleTypeId) → k ≡ ItemKind.Module g → ⊥) → Disagree [] (tree_in c j) (tree_in d k)
  other_module f is h = kinds_disagree c d a b j k s r (λ e. not_module k h (sym e ∙ ap item_kind is))

  pub other_value : (f : ValueType) → j ≡ ItemKind.Value f → ((g : ValueType) → k ≡ ItemKind.Value g → ⊥) → Disagree [] (tree_in c j) (tree_in d k)
  other_value f is h = kinds_disagree c d a b j k s r (λ e. not_value k h (sym e ∙ ap item_kind is))

  pub other_type : (t : TypeKind) → j ≡ ItemKind.Ty t → ((u : TypeKind) → k ≡ ItemKind.Ty u → ⊥) → Disagree [] (tree_in c j) (tree_in d k)
  other_type t is h = kinds_disagree c d a b j k s r (λ e. not_type k h (ap is_type (sym e ∙ ap item_kind is) ∙ types_are_types t))

-- ---- kinds of types

abbrev pub kind_of_type : TypeKind → Kind
kind_of_type t = item_kind (ItemKind.Ty t)

not_resource_type : (t : TypeKind) → ((f : ResourceId) → t ≡ TypeKind.Resource f → ⊥) → kind_of_type t ≡ IsResource → ⊥
not_resource_type (TypeKind.Resource f) h e = h f refl
not_resource_type t h e = absurd (cc e)

not_func_type : (t : TypeKind) → ((f : FuncTypeId) → t ≡ TypeKind.Func f → ⊥) → kind_of_type t ≡ IsFunctionType → ⊥
not_func_type (TypeKind.Func f) h e = h f refl
not_func_type t h e = absurd (cc e)

not_value_type : (t : TypeKind) → ((f : ValueType) → t ≡ TypeKind.Value f → ⊥) → kind_of_type t ≡ IsValueType → ⊥
not_value_type (TypeKind.Value f) h e = h f refl
not_value_type t h e = absurd (cc e)

pub not_interface_type : (t : TypeKind) → ((f : InterfaceId) → t ≡ TypeKind.Interface f → ⊥) → kind_of_type t ≡ IsInterface → ⊥
not_interface_type (TypeKind.Interface f) h e = h f refl
not_interface_type t h e = absurd (cc e)

not_world_type : (t : TypeKind) → ((f : WorldId) → t ≡ TypeKind.World f → ⊥) → kind_of_type t ≡ IsWorld → ⊥
not_world_type (TypeKind.World f) h e = h f refl
not_world_type t h e = absurd (cc e)

not_module_type : (t : TypeKind) → ((f : ModuleTypeId) → t ≡ TypeKind.Module f → ⊥) → kind_of_type t ≡ IsModuleType → ⊥
not_module_type (TypeKind.Module f) h e = h f refl
not_module_type t h e = absurd (cc e)

module _ (c d : Collection) (a : IsAcyclic c) (b : IsAcyclic d) (t u : TypeKind) (s : Stands c (ItemKind.Ty t)) (r : Stands d (ItemKind.Ty u)) where
  types_disagree : (kind_of_type t ≡ kind_of_type u → ⊥) → Disagree [] (tree_in c (ItemKind.Ty t)) (tree_in d (ItemKind.Ty u))
  types_disagree h = kinds_disagree c d a b (ItemKind.Ty t) (ItemKind.Ty u) s r h

  pub other_resource_type : (f : ResourceId) → t ≡ TypeKind.Resource f → ((g : ResourceId) → u ≡ TypeKind.Resource g → ⊥) → Disagree [] (tree_in c (ItemKind.Ty t)) (tree_in d (ItemKind.Ty u))
  other_resource_type f is h = types_disagree (λ e. not_resource_type u h (sym e ∙ ap kind_of_type is))

  pub other_func_type : (f : FuncTypeId) → t ≡ TypeKind.Func f → ((g : FuncTypeId) → u ≡ TypeKind.Func g → ⊥) → Disagree [] (tree_in c (ItemKind.Ty t)) (tree_in d (ItemKind.Ty u))
  other_func_type f is h = types_disagree (λ e. not_func_type u h (sym e ∙ ap kind_of_type is))

  pub other_value_type : (f : ValueType) → t ≡ TypeKind.Value f → ((g : ValueType) → u ≡ TypeKind.Value g → ⊥) → Disagree [] (tree_in c (ItemKind.Ty t)) (tree_in d (ItemKind.Ty u))
  other_value_type f is h = types_disagree (λ e. not_value_type u h (sym e ∙ ap kind_of_type is))

  pub other_interface_type : (f : InterfaceId) → t ≡ TypeKind.Interface f → ((g : InterfaceId) → u ≡ TypeKind.Interface g → ⊥) → Disagree [] (tree_in c (ItemKind.Ty t)) (tree_in d (ItemKind.Ty u))
  other_interface_type f is h = types_disagree (λ e. not_interface_type u h (sym e ∙ ap kind_of_type is))

  pub other_world_type : (f : WorldId) → t ≡ TypeKind.World f → ((g : WorldId) → u ≡ TypeKind.World g → ⊥) → Disagree [] (tree_in c (ItemKind.Ty t)) (tree_in d (ItemKind.Ty u))
  other_world_type f is h = types_disagree (λ e. not_world_type u h (sym e ∙ ap kind_of_type is))

  pub other_module_type : (f : ModuleTypeId) → t ≡ TypeKind.Module f → ((g : ModuleTypeId) → u ≡ TypeKind.Module g → ⊥) → Disagree [] (tree_in c (ItemKind.Ty t)) (tree_in d (ItemKind.Ty u))
  other_module_type f is h = types_disagree (λ e. not_module_type u h (sym e ∙ ap kind_of_type is))
