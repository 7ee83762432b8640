-- Stated types: the finite unfolding of an id with its identifiers, uses and owners, and the words that make and read it.
use Rattle.std.specs.Prelude.{◌+◌, Bool, true, false, ◌||◌, List, [], ◌∷◌, ◌++◌, map, length, Option, Some, None, option_map, codes, drop, ⊤}
use Rattle.wac_types_base.specs.declared.item.PrimitiveType.{PrimitiveType}
use Rattle.wac_types_base.specs.declared.ids.WorldId.{WorldId}
use Rattle.wac_types_base.specs.declared.item.ItemKind.{ItemKind}
use Rattle.wac_types_base.specs.declared.defined.UsedType.{UsedType}
use Rattle.wac_types_base.specs.declared.defined.DefinedType.{DefinedType}
use Rattle.wac_types_base.specs.Entries.{Name}
use Rattle.wac_types_base.specs.Record.{Collection}
use Rattle.wac_types_base.specs.Graph.{Whole, Wholes, node, no_more, more, hole}
use Rattle.wac_types_base.specs.Collection.{Entry, unfolding_of, Shape, primitive, tuple, list, fixed_size_list, option, result, variant, record_of, flags, enum, alias, stream, future, resource, resource_alias, func, interface, world, module_type, type_of, borrow_of, own_of}

abbrev pub Stated : Type 0
Stated = Whole Shape

abbrev pub shape_of : Stated → Shape
shape_of (node s ts) = s

-- ---- places

-- a row of these places
abbrev pub row : List (Option Stated) → Wholes Shape
row [] = no_more
row (None ∷ os) = hole (row os)
row (Some t ∷ os) = more t (row os)

-- the one recursion over stated types: what a label says over its places, each with what was found there
abbrev mutual
  pub folded : {A : Type 0} → (Shape → List (Option (Stated × A)) → A) → Stated → A
  folded f (node s ts) = f s (folded_row f ts)

  pub folded_row : {A : Type 0} → (Shape → List (Option (Stated × A)) → A) → Wholes Shape → List (Option (Stated × A))
  folded_row f no_more = []
  folded_row f (hole ts) = None ∷ folded_row f ts
  folded_row f (more t ts) = Some (t, folded f t) ∷ folded_row f ts

abbrev pub places_in : Wholes Shape → List (Option Stated)
places_in no_more = []
places_in (hole ts) = None ∷ places_in ts
places_in (more t ts) = Some t ∷ places_in ts

abbrev pub places_of : Stated → List (Option Stated)
places_of (node s ts) = places_in ts

-- names beside what stands in the places
abbrev pub with_names : {A : Type 0} → List Name → List (Option A) → List (Name × A)
with_names [] os = []
with_names (n ∷ ns) [] = []
with_names (n ∷ ns) (None ∷ os) = with_names ns os
with_names (n ∷ ns) (Some x ∷ os) = (n, x) ∷ with_names ns os

abbrev pub names : {A : Type 0} → List (Name × A) → List Name
names xs = map (λ x. x.0) xs

abbrev pub filled : {A : Type 0} → List (Name × A) → List (Option A)
filled xs = map (λ x. Some x.1) xs

-- ---- the stated type of an id, and of an entry

-- the type that is there; where there is none it does not matter which
abbrev pub stated_in : Option Stated → Stated
stated_in None = node alias no_more
stated_in (Some t) = t

-- what a kind that stands names
abbrev pub stated_of : Collection → ItemKind → Stated
stated_of c k = stated_in (unfolding_of c k)

-- of a component of this world
abbrev pub stated_world : Collection → WorldId → Stated
stated_world c w = stated_of c (ItemKind.Component w)

-- what an entry would name
abbrev pub stated_entry : Collection → Entry → Stated
stated_entry c e = node e.0 (row (map (option_map (stated_of c)) e.1))

-- ---- making

-- a use: its name, the name there where it is another, the interface
pub record Used : Type 0 where
  pub name : Name
  pub there : Option Name
  pub interface : Stated

-- a use of an interface of the collection
abbrev pub stated_use : Collection → Name × UsedType → Used
stated_use c u = record { name = u.0; there = u.1.name; interface = stated_of c (ItemKind.Instance u.1.interface) }

abbrev pub names_used : List Used → List (Name × Option Name)
names_used us = map (λ u. (u.name, u.there)) us

abbrev pub used_places : List Used → List (Option Stated)
used_places us = map (λ u. Some u.interface) us

abbrev pub leaf : Shape → Stated
leaf s = node s no_more

abbrev pub over : Shape → List (Option Stated) → Stated
over s os = node s (row os)

-- a function of these parameters and this result
abbrev pub func_of : List (Name × Stated) → Option Stated → Bool → Stated
func_of params answer is_async = over (func (names params) is_async) (filled params ++ answer ∷ [])

-- an interface with this identifier, these uses and exports
abbrev pub interface_of : Option Name → List Used → List (Name × Stated) → Stated
interface_of id uses exports = over (interface id (names_used uses) (names exports)) (used_places uses ++ filled exports)

-- a world with this identifier, these uses, imports and exports
abbrev pub world_of : Option Name → List Used → List (Name × Stated) → List (Name × Stated) → Stated
world_of id uses imports exports =
    over (world id (names_used uses) (names imports) (names exports)) (used_places uses ++ (filled imports ++ filled exports))

abbrev pub relabelled : (Shape → Shape) → Stated → Stated
relabelled f (node s ts) = node (f s) ts

-- the type of a thing, as an item
abbrev pub as_type : Stated → Stated
as_type = relabelled type_of

-- handles of a resource
abbrev pub own : Stated → Stated
own = relabelled own_of

abbrev pub borrow : Stated → Stated
borrow = relabelled borrow_of

-- ---- kinds

pub data Kind : Type 0 where
  IsFunction : Kind
  IsInstance : Kind
  IsComponent : Kind
  IsModule : Kind
  IsValue : Kind
  IsResource : Kind
  IsFunctionType : Kind
  IsValueType : Kind
  IsInterface : Kind
  IsWorld : Kind
  IsModuleType : Kind

abbrev pub is_interface : Kind → Bool
is_interface IsInterface = true
is_interface k = false

-- the kind of a type item
abbrev pub type_kind : Shape → Kind
type_kind (func ps a) = IsFunctionType
type_kind (interface i us es) = IsInterface
type_kind (world i us is es) = IsWorld
type_kind (module_type m) = IsModuleType
type_kind s = IsValueType

abbrev pub shape_kind : Shape → Kind
shape_kind (func ps a) = IsFunction
shape_kind (interface i us es) = IsInstance
shape_kind (world i us is es) = IsComponent
shape_kind (module_type m) = IsModule
shape_kind (resource n) = IsResource
shape_kind (resource_alias n) = IsResource
shape_kind (type_of s) = type_kind s
shape_kind s = IsValue

abbrev pub kind_of : Stated → Kind
kind_of t = shape_kind (shape_of t)

-- the thing that a type item is the type of
abbrev pub untyped_shape : Shape → Shape
untyped_shape (type_of s) = s
untyped_shape s = s

abbrev pub untyped : Stated → Stated
untyped = relabelled untyped_shape

-- function, interface and world types become function, instance and component; all else stays
abbrev pub promote_by : Kind → Stated → Stated
promote_by IsFunctionType t = untyped t
promote_by IsInterface t = untyped t
promote_by IsWorld t = untyped t
promote_by k t = t

abbrev pub promote : Stated → Stated
promote t = promote_by (kind_of t) t

-- ---- reading interfaces and worlds

abbrev pub uses_from : {A : Type 0} → List (Name × Option Name) → List (Option (Stated × A)) → List (Used × A)
uses_from [] os = []
uses_from (u ∷ us) [] = []
uses_from (u ∷ us) (None ∷ os) = uses_from us os
uses_from (u ∷ us) (Some t ∷ os) = (record { name = u.0; there = u.1; interface = t.0 }, t.1) ∷ uses_from us os

-- the parts of an interface or world whose places hold A; anything else has none
pub record Parts (A : Type 0) : Type 0 where
  pub identifier : Option Name
  pub uses : List (Used × A)
  pub imports : List (Name × (Stated × A))
  pub exports : List (Name × (Stated × A))

abbrev pub parts_at : {A : Type 0} → Shape → List (Option (Stated × A)) → Parts A
parts_at (interface i us es) os =
    record { identifier = i; uses = uses_from us os; imports = []; exports = with_names es (drop (length us) os) }
parts_at (world i us is es) os = record {
  identifier = i;
  uses = uses_from us os;
  imports = with_names is (drop (length us) os);
  exports = with_names es (drop (length us + length is) os);
}
parts_at s os = record { identifier = None; uses = []; imports = []; exports = [] }

abbrev pub only_places : Wholes Shape → List (Option (Stated × ⊤))
only_places no_more = []
only_places (hole ts) = None ∷ only_places ts
only_places (more t ts) = Some (t, tt) ∷ only_places ts

-- the parts of an instance, an interface, a component or a world
abbrev pub parts_of : Stated → Parts ⊤
parts_of (node s ts) = parts_at (untyped_shape s) (only_places ts)

abbrev pub first_parts : {A B : Type 0} → List (Name × (A × B)) → List (Name × A)
first_parts xs = map (λ x. (x.0, x.1.0)) xs

abbrev pub exports_of : Stated → List (Name × Stated)
exports_of t = first_parts (parts_of t).exports

abbrev pub imports_of : Stated → List (Name × Stated)
imports_of t = first_parts (parts_of t).imports

abbrev pub uses_of : Stated → List Used
uses_of t = map (λ u. u.0) (parts_of t).uses

abbrev pub identifier_of : Stated → Option Name
identifier_of t = (parts_of t).identifier

-- an interface without identifier, with the world's uses and exports
abbrev pub instance_type : Stated → Stated
instance_type w = interface_of None (uses_of w) (exports_of w)

-- ---- reading resources and values

abbrev pub root_at : Shape → List (Option (Stated × Name)) → Name
root_at (resource n) os = n
root_at (resource_alias n) (Some s ∷ os) = s.1
root_at (own_of (resource n)) os = n
root_at (own_of (resource_alias n)) (Some s ∷ os) = s.1
root_at (borrow_of (resource n)) os = n
root_at (borrow_of (resource_alias n)) (Some s ∷ os) = s.1
root_at s os = []

-- the name of the resource at the end of the aliases, of a resource or handle
abbrev pub root_name : Stated → Name
root_name = folded root_at

abbrev pub any_place : {A : Type 0} → (A → Bool) → List (Option (Stated × A)) → Bool
any_place p [] = false
any_place p (None ∷ os) = any_place p os
any_place p (Some x ∷ os) = p x.1 || any_place p os

abbrev pub borrows_at : Shape → List (Option (Stated × Bool)) → Bool
borrows_at (borrow_of s) os = true
borrows_at (own_of s) os = false
borrows_at s os = any_place (λ b. b) os

-- a borrow stands in a value type; what a handle's resource is made of does not count
unfoldable pub contains_borrow : Stated → Bool
contains_borrow = folded borrows_at

abbrev pub in_first_place : List (Option (Stated × Name)) → Name
in_first_place (Some x ∷ os) = x.1
in_first_place os = []

abbrev pub primitive_word : PrimitiveType → Name
primitive_word PrimitiveType.U8 = codes "u8"
primitive_word PrimitiveType.S8 = codes "s8"
primitive_word PrimitiveType.U16 = codes "u16"
primitive_word PrimitiveType.S16 = codes "s16"
primitive_word PrimitiveType.U32 = codes "u32"
primitive_word PrimitiveType.S32 = codes "s32"
primitive_word PrimitiveType.U64 = codes "u64"
primitive_word PrimitiveType.S64 = codes "s64"
primitive_word PrimitiveType.F32 = codes "f32"
primitive_word PrimitiveType.F64 = codes "f64"
primitive_word PrimitiveType.Char = codes "char"
primitive_word PrimitiveType.Bool = codes "bool"
primitive_word PrimitiveType.String = codes "string"
primitive_word PrimitiveType.ErrorContext = codes "error-context"

-- how a value type is called; an alias as what it names
abbrev pub value_word : Shape → List (Option (Stated × Name)) → Name
value_word (primitive p) os = primitive_word p
value_word (borrow_of s) os = codes "borrow"
value_word (own_of s) os = codes "own"
value_word tuple os = codes "tuple"
value_word list os = codes "list"
value_word (fixed_size_list n) os = codes "fixed size list"
value_word option os = codes "option"
value_word result os = codes "result"
value_word (variant ns) os = codes "variant"
value_word (record_of ns) os = codes "record"
value_word (flags ns) os = codes "flags"
value_word (enum ns) os = codes "enum"
value_word alias os = in_first_place os
value_word stream os = codes "stream"
value_word future os = codes "future"
value_word s os = []

-- how a defined type is called that is no alias
abbrev pub word_of : DefinedType → Name
word_of (DefinedType.Tuple ts) = codes "tuple"
word_of (DefinedType.List t) = codes "list"
word_of (DefinedType.FixedSizeList t n) = codes "fixed size list"
word_of (DefinedType.Option t) = codes "option"
word_of (DefinedType.Result ok err) = codes "result"
word_of (DefinedType.Variant v) = codes "variant"
word_of (DefinedType.Record r) = codes "record"
word_of (DefinedType.Flags f) = codes "flags"
word_of (DefinedType.Enum e) = codes "enum"
word_of (DefinedType.Alias t) = codes "alias"
word_of (DefinedType.Stream o) = codes "stream"
word_of (DefinedType.Future o) = codes "future"

abbrev pub kind_word : Kind → Name → Name
kind_word IsFunction n = codes "function"
kind_word IsInstance n = codes "instance"
kind_word IsComponent n = codes "component"
kind_word IsModule n = codes "module"
kind_word IsValue n = codes "value"
kind_word IsResource n = codes "resource"
kind_word IsFunctionType n = codes "function type"
kind_word IsValueType n = n
kind_word IsInterface n = codes "interface"
kind_word IsWorld n = codes "world"
kind_word IsModuleType n = codes "module type"

-- how a value type is called
unfoldable pub value_desc : Stated → Name
value_desc = folded value_word

-- how an item is called
unfoldable pub desc : Stated → Name
desc t = kind_word (kind_of t) (value_desc (untyped t))
