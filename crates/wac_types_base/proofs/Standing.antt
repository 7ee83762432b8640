-- When an id stands, in terms of its number and its index.
use Rattle.std.proofs.Common.{◌≡◌, ℕ, zero, suc, ◌<◌, List, [], ◌∷◌, length, Option, Some, None, IsSome, is_some, Bool, true, false, ◌==◌, ◌&&◌, nat_lt, if◌then◌else◌, slice_get, get_or, refl, sym, ap, ◌∙◌, arith}
use Rattle.std.proofs.lemmas.Bool.Decides.{nat_tests}
use Rattle.std.specs.Option.{option_map}
use Rattle.std.proofs.lemmas.Option.{slice_get_within, get_or_from_slice_get}
use Rattle.wac_types_base.specs.declared.item.PrimitiveType.{PrimitiveType}
use Rattle.wac_types_base.specs.declared.item.ValueType.{ValueType}
use Rattle.wac_types_base.specs.declared.item.«Type».{«Type» as TypeKind}
use Rattle.wac_types_base.specs.declared.item.ItemKind.{ItemKind}
use Rattle.wac_types_base.specs.declared.ids.FuncTypeId.{FuncTypeId}
use Rattle.wac_types_base.specs.declared.ids.InterfaceId.{InterfaceId}
use Rattle.wac_types_base.specs.declared.ids.WorldId.{WorldId}
use Rattle.wac_types_base.specs.declared.ids.ResourceId.{ResourceId}
use Rattle.wac_types_base.specs.declared.ids.DefinedTypeId.{DefinedTypeId}
use Rattle.wac_types_base.specs.declared.ids.ModuleTypeId.{ModuleTypeId}
use Rattle.wac_types_base.specs.Record.{Collection}
use Rattle.wac_types_base.specs.Collection.{Shape, Entry, entry_at, labelled, defined_entry, resource_entry, module_entry, func_entry, interface_entry, world_entry, value_node, type_node, item_node, Stands}
use Rattle.wac_types_base.proofs.GraphLemmas.{value_of}
use Rattle.wac_types_base.proofs.Adding.{guarded-some, option_map-some}

is_some-slice_get : {X : Type 0} (xs : List X) (i : ℕ) → is_some (slice_get xs i) ≡ nat_lt i (length xs)
is_some-slice_get [] i = sym (none i)
  where
    none : (i : ℕ) → nat_lt i 0 ≡ false
    none i = grind (arith, nat_tests)
is_some-slice_get (x ∷ xs) zero = sym (first (length xs))
  where
    first : (n : ℕ) → nat_lt 0 (suc n) ≡ true
    first n = grind (arith, nat_tests)
is_some-slice_get (x ∷ xs) (suc i) = is_some-slice_get xs i ∙ sym (next i (length xs))
  where
    next : (i n : ℕ) → nat_lt (suc i) (suc n) ≡ nat_lt i n
    next i n = grind (arith, nat_tests)

pub is_some-option_map : {A B : Type 0} (f : A → B) (o : Option A) → is_some (option_map f o) ≡ is_some o
is_some-option_map f None = refl
is_some-option_map f (Some x) = refl

is_some-guarded : {A : Type 0} (b : Bool) (o : Option A) → is_some (if b then o else None) ≡ (b && is_some o)
is_some-guarded true o = refl
is_some-guarded false o = refl

-- an entry is there where the number is the collection's and the index is below the length
pub is_some-entry_at : {E : Type 0} (f : E → Entry) (n : ℕ) (es : List E) (col i : ℕ) → is_some (entry_at f n es col i) ≡ ((col == n) && nat_lt i (length es))
is_some-entry_at f n es col i = is_some-guarded (col == n) (option_map f (slice_get es i)) ∙ ap (λ b. (col == n) && b) (is_some-option_map f (slice_get es i) ∙ is_some-slice_get es i)

pub is_some-labelled : (l : Shape → Shape) (o : Option Entry) → is_some (labelled l o) ≡ is_some o
is_some-labelled l None = refl
is_some-labelled l (Some e) = refl

-- what an id that stands is
pub record Found {E : Type 0} (n : ℕ) (es : List E) (col i : ℕ) : Type 0 where
  pub own : col ≡ n
  pub within : i < length es
  pub value : E
  pub at : slice_get es i ≡ Some value

pub found : {E : Type 0} (f : E → Entry) (n : ℕ) (es : List E) (col i : ℕ) → IsSome (entry_at f n es col i) → Found n es col i
found f n es col i h =
    let v = value_of _ h in
    let g = guarded-some (col == n) (option_map f (slice_get es i)) v.0 v.1 in
    let m = option_map-some f (slice_get es i) v.0 g.1 in
    record { own = same col n g.0; within = slice_get_within es i m.0 m.1; value = m.0; at = m.1 }
  where
    same : (a b : ℕ) → (a == b) ≡ true → a ≡ b
    same a b h = grind (arith, nat_tests)

module _ (c : Collection) where
  pub func_found : (id : FuncTypeId) → Stands c (ItemKind.Func id) → Found c.number c.func_types id.collection id.index
  unfolding item_node
  func_found id = found func_entry c.number c.func_types id.collection id.index

  pub resource_found : (id : ResourceId) → Stands c (ItemKind.Ty (TypeKind.Resource id)) → Found c.number c.resources id.collection id.index
  unfolding item_node
  resource_found id = found resource_entry c.number c.resources id.collection id.index

  pub defined_found : (id : DefinedTypeId) → Stands c (ItemKind.Value (ValueType.Defined id)) → Found c.number c.defined_types id.collection id.index
  unfolding item_node
  defined_found id = found defined_entry c.number c.defined_types id.collection id.index

  pub interface_found : (id : InterfaceId) → Stands c (ItemKind.Instance id) → Found c.number c.interfaces id.collection id.index
  unfolding item_node
  interface_found id = found interface_entry c.number c.interfaces id.collection id.index

  pub world_found : (id : WorldId) → Stands c (ItemKind.Component id) → Found c.number c.worlds id.collection id.index
  unfolding item_node
  world_found id = found world_entry c.number c.worlds id.collection id.index

  pub module_found : (id : ModuleTypeId) → Stands c (ItemKind.Module id) → Found c.number c.modules id.collection id.index
  unfolding item_node
  module_found id = found module_entry c.number c.modules id.collection id.index

  pub value_stands : (v : ValueType) → is_some (item_node c (ItemKind.Value v)) ≡ is_some (value_node c v)
  unfolding item_node
  value_stands v = refl

  pub type_stands : (t : TypeKind) → is_some (item_node c (ItemKind.Ty t)) ≡ is_some (type_node c t)
  unfolding item_node
  type_stands t = refl

-- what an id that stands reads
pub read : {E : Type 0} {n : ℕ} {es : List E} {col i : ℕ} → Found n es col i → (x : E) → x ≡ get_or es i x → slice_get es i ≡ Some x
read {E} {n} {es} {col} {i} f x e = f.at ∙ ap Some (sym (e ∙ get_or_from_slice_get es i f.value x f.at))

-- the parts of a value type's, a type's standing
pub borrow_stands : (c : Collection) (id : ResourceId) → is_some (item_node c (ItemKind.Value (ValueType.Borrow id))) ≡ ((id.collection == c.number) && nat_lt id.index (length c.resources))
unfolding item_node
borrow_stands c id = is_some-labelled _ _ ∙ is_some-entry_at resource_entry c.number c.resources id.collection id.index

pub own_stands : (c : Collection) (id : ResourceId) → is_some (item_node c (ItemKind.Value (ValueType.Own id))) ≡ ((id.collection == c.number) && nat_lt id.index (length c.resources))
unfolding item_node
own_stands c id = is_some-labelled _ _ ∙ is_some-entry_at resource_entry c.number c.resources id.collection id.index

pub defined_stands : (c : Collection) (id : DefinedTypeId) → is_some (item_node c (ItemKind.Value (ValueType.Defined id))) ≡ ((id.collection == c.number) && nat_lt id.index (length c.defined_types))
unfolding item_node
defined_stands c id = is_some-entry_at defined_entry c.number c.defined_types id.collection id.index

pub primitive_stands : (c : Collection) (p : PrimitiveType) → is_some (item_node c (ItemKind.Value (ValueType.Primitive p))) ≡ true
unfolding item_node
primitive_stands c p = refl

pub resource_stands : (c : Collection) (id : ResourceId) → is_some (item_node c (ItemKind.Ty (TypeKind.Resource id))) ≡ ((id.collection == c.number) && nat_lt id.index (length c.resources))
unfolding item_node
resource_stands c id = is_some-entry_at resource_entry c.number c.resources id.collection id.index

pub func_stands : (c : Collection) (id : FuncTypeId) → is_some (item_node c (ItemKind.Ty (TypeKind.Func id))) ≡ ((id.collection == c.number) && nat_lt id.index (length c.func_types))
unfolding item_node
func_stands c id = is_some-labelled _ _ ∙ is_some-entry_at func_entry c.number c.func_types id.collection id.index

pub interface_stands : (c : Collection) (id : InterfaceId) → is_some (item_node c (ItemKind.Ty (TypeKind.Interface id))) ≡ ((id.collection == c.number) && nat_lt id.index (length c.interfaces))
unfolding item_node
interface_stands c id = is_some-labelled _ _ ∙ is_some-entry_at interface_entry c.number c.interfaces id.collection id.index

pub world_stands : (c : Collection) (id : WorldId) → is_some (item_node c (ItemKind.Ty (TypeKind.World id))) ≡ ((id.collection == c.number) && nat_lt id.index (length c.worlds))
unfolding item_node
world_stands c id = is_some-labelled _ _ ∙ is_some-entry_at world_entry c.number c.worlds id.collection id.index

pub module_stands : (c : Collection) (id : ModuleTypeId) → is_some (item_node c (ItemKind.Ty (TypeKind.Module id))) ≡ ((id.collection == c.number) && nat_lt id.index (length c.modules))
unfolding item_node
module_stands c id = is_some-labelled _ _ ∙ is_some-entry_at module_entry c.number c.modules id.collection id.index

pub typed_value_stands : (c : Collection) (v : ValueType) → is_some (item_node c (ItemKind.Ty (TypeKind.Value v))) ≡ is_some (item_node c (ItemKind.Value v))
unfolding item_node
typed_value_stands c v = is_some-labelled _ _

pub ruleset standing = (borrow_stands, own_stands, defined_stands, primitive_stands, resource_stands, func_stands, interface_stands, world_stands, module_stands, typed_value_stands)
