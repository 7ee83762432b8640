-- The tests of labels, stated types and trees say what they are to say.
use Rattle.std.proofs.Common.{◌≡◌, Bool, true, false, List, [], ◌∷◌, Option, Some, None, refl, ap, subst}
use Rattle.std.proofs.lemmas.Bool.{and_parts}
use Rattle.std.specs.Cmp.Derive.{both_true}
use Rattle.std.specs.Prelude.{◌&&◌, ◌==◌, bytes_eq}
use Rattle.std.specs.Bool.{Decides}
use Rattle.std.proofs.lemmas.Slice.Eq.{bytes_eq-Decides}
use Rattle.std.proofs.lemmas.Bool.Decides.{Decides-eqb}
use Rattle.wac_types_base.specs.declared.item.PrimitiveType.{PrimitiveType}
use Rattle.wac_types_base.specs.declared.core_types.HeapType.{HeapType}
use Rattle.wac_types_base.specs.declared.core_types.CoreRefType.{CoreRefType}
use Rattle.wac_types_base.specs.declared.core_types.CoreType.{CoreType}
use Rattle.wac_types_base.specs.declared.core_types.CoreFuncType.{CoreFuncType}
use Rattle.wac_types_base.specs.declared.core_types.CoreExtern.{CoreExtern}
use Rattle.wac_types_base.specs.declared.core_types.ModuleType.{ModuleType}
use Rattle.wac_types_base.specs.Entries.{Name}
use Rattle.wac_types_base.specs.Collection.{Shape, primitive, tuple, list, fixed_size_list, option, result, variant, record_of, flags, enum, alias, stream, future, resource, resource_alias, func, interface, world, module_type, type_of, borrow_of, own_of}
use Rattle.wac_types_base.specs.Tree.{Tree, rigid, instance, component, core_module, handle_own, handle_borrow, type_item, Row, end, place, gap, Fields, no_fields, field}
use Rattle.wac_composition.specs.Tests.{lists_agree, options_agree, bools_agree, same_names, same_heap, same_reference, same_core_type, same_signature, same_number, same_extern, same_core_import, same_core_export, same_module, same_primitive, same_use, same_label, same_tree, same_row, same_fields}

and3 : (a b c : Bool) → a ≡ true → b ≡ true → c ≡ true → (a && b && c) ≡ true
and3 a b c e f g = both_true (both_true e f) g

and4 : (a b c d : Bool) → a ≡ true → b ≡ true → c ≡ true → d ≡ true → (a && b && c && d) ≡ true
and4 a b c d e f g h = both_true (and3 a b c e f g) h

and5 : (a b c d x : Bool) → a ≡ true → b ≡ true → c ≡ true → d ≡ true → x ≡ true → (a && b && c && d && x) ≡ true
and5 a b c d x e f g h k = both_true (and4 a b c d e f g h) k

-- a test that says yes of equal things alone, and of each thing and itself
pub record Tells {A : Type 0} (p : A → A → Bool) : Type 0 where
  pub only : (x y : A) → p x y ≡ true → x ≡ y
  pub itself : (x : A) → p x x ≡ true

pub decides : {A : Type 0} {p : A → A → Bool} → Tells p → (x y : A) → Decides (p x y) (x ≡ y)
decides {A} {p} t x y = (t.only x y, λ e. subst (λ (z : A). p x z ≡ true) e (t.itself x))

names_tell : Tells bytes_eq
names_tell = record { only = λ x y. (bytes_eq-Decides x y).0; itself = λ x. (bytes_eq-Decides x x).1 refl }

numbers_tell : Tells same_number
numbers_tell = record { only = λ x y. (Decides-eqb x y).0; itself = λ x. (Decides-eqb x x).1 refl }

lists_only : {A : Type 0} (p : A → A → Bool) → Tells p → (xs ys : List A) → lists_agree p xs ys ≡ true → xs ≡ ys
lists_only p t [] [] e = refl
lists_only p t (x ∷ xs) (y ∷ ys) e =
    let h = and_parts (p x y) (lists_agree p xs ys) e in
    let first = t.only x y h.0 in
    let rest = lists_only p t xs ys h.1 in
    λ i. first i ∷ rest i
lists_only p t [] (y ∷ ys) e = absurd (cc e)
lists_only p t (x ∷ xs) [] e = absurd (cc e)

lists_itself : {A : Type 0} (p : A → A → Bool) → Tells p → (xs : List A) → lists_agree p xs xs ≡ true
lists_itself p t [] = refl
lists_itself p t (x ∷ xs) = both_true (t.itself x) (lists_itself p t xs)

lists_tell : {A : Type 0} (p : A → A → Bool) → Tells p → Tells (lists_agree p)
lists_tell p t = record { only = lists_only p t; itself = lists_itself p t }

options_only : {A : Type 0} (p : A → A → Bool) → Tells p → (x y : Option A) → options_agree p x y ≡ true → x ≡ y
options_only p t None None e = refl
options_only p t (Some x) (Some y) e = ap Some (t.only x y e)
options_only p t None (Some y) e = absurd (cc e)
options_only p t (Some x) None e = absurd (cc e)

options_itself : {A : Type 0} (p : A → A → Bool) → Tells p → (x : Option A) → options_agree p x x ≡ true
options_itself p t None = refl
options_itself p t (Some x) = t.itself x

options_tell : {A : Type 0} (p : A → A → Bool) → Tells p → Tells (options_agree p)
options_tell p t = record { only = options_only p t; itself = options_itself p t }

bools_only : (a b : Bool) → bools_agree a b ≡ true → a ≡ b
bools_only true true e = refl
bools_only false false e = refl
bools_only true false e = absurd (cc e)
bools_only false true e = absurd (cc e)

bools_itself : (a : Bool) → bools_agree a a ≡ true
bools_itself true = refl
bools_itself false = refl

bools_tell : Tells bools_agree
bools_tell = record { only = bools_only; itself = bools_itself }

same_names_tell : Tells same_names
same_names_tell = lists_tell bytes_eq names_tell

-- ---- core items

heap_only : (a b : HeapType) → same_heap a b ≡ true → a ≡ b
heap_only (HeapType.Concrete m) (HeapType.Concrete n) e = ap HeapType.Concrete (numbers_tell.only m n e)
heap_only HeapType.Func HeapType.Func e = refl
heap_only HeapType.Extern HeapType.Extern e = refl
heap_only HeapType.Any HeapType.Any e = refl
heap_only HeapType.None HeapType.None e = refl
heap_only HeapType.NoExtern HeapType.NoExtern e = refl
heap_only HeapType.NoFunc HeapType.NoFunc e = refl
heap_only HeapType.Eq HeapType.Eq e = refl
heap_only HeapType.Struct HeapType.Struct e = refl
heap_only HeapType.Array HeapType.Array e = refl
heap_only HeapType.I31 HeapType.I31 e = refl
heap_only HeapType.Exn HeapType.Exn e = refl
heap_only HeapType.NoExn HeapType.NoExn e = refl
heap_only HeapType.Cont HeapType.Cont e = refl
heap_only HeapType.NoCont HeapType.NoCont e = refl
heap_only _ _ e = absurd (cc e)

heap_itself : (a : HeapType) → same_heap a a ≡ true
heap_itself (HeapType.Concrete n) = numbers_tell.itself n
heap_itself HeapType.Func = refl
heap_itself HeapType.Extern = refl
heap_itself HeapType.Any = refl
heap_itself HeapType.None = refl
heap_itself HeapType.NoExtern = refl
heap_itself HeapType.NoFunc = refl
heap_itself HeapType.Eq = refl
heap_itself HeapType.Struct = refl
heap_itself HeapType.Array = refl
heap_itself HeapType.I31 = refl
heap_itself HeapType.Exn = refl
heap_itself HeapType.NoExn = refl
heap_itself HeapType.Cont = refl
heap_itself HeapType.NoCont = refl

reference_only : (a b : CoreRefType) → same_reference a b ≡ true → a ≡ b
reference_only a b e =
    let h = and_parts (bools_agree a.nullable b.nullable) (same_heap a.heap_type b.heap_type) e in
    let n = bools_only a.nullable b.nullable h.0 in
    let t = heap_only a.heap_type b.heap_type h.1 in
    λ i. record { nullable = n i; heap_type = t i }

reference_itself : (a : CoreRefType) → same_reference a a ≡ true
reference_itself a = both_true (bools_itself a.nullable) (heap_itself a.heap_type)

reference_tells : Tells same_reference
reference_tells = record { only = reference_only; itself = reference_itself }

core_type_only : (a b : CoreType) → same_core_type a b ≡ true → a ≡ b
core_type_only CoreType.I32 CoreType.I32 e = refl
core_type_only CoreType.I64 CoreType.I64 e = refl
core_type_only CoreType.F32 CoreType.F32 e = refl
core_type_only CoreType.F64 CoreType.F64 e = refl
core_type_only CoreType.V128 CoreType.V128 e = refl
core_type_only (CoreType.Ref a) (CoreType.Ref b) e = ap CoreType.Ref (reference_only a b e)
core_type_only _ _ e = absurd (cc e)

core_type_itself : (a : CoreType) → same_core_type a a ≡ true
core_type_itself CoreType.I32 = refl
core_type_itself CoreType.I64 = refl
core_type_itself CoreType.F32 = refl
core_type_itself CoreType.F64 = refl
core_type_itself CoreType.V128 = refl
core_type_itself (CoreType.Ref a) = reference_itself a

core_type_tells : Tells same_core_type
core_type_tells = record { only = core_type_only; itself = core_type_itself }

core_types_tell : Tells (lists_agree same_core_type)
core_types_tell = lists_tell same_core_type core_type_tells

signature_only : (f g : CoreFuncType) → same_signature f g ≡ true → f ≡ g
signature_only f g e =
    let h = and_parts (lists_agree same_core_type f.params g.params) (lists_agree same_core_type f.results g.results) e in
    let p = core_types_tell.only f.params g.params h.0 in
    let r = core_types_tell.only f.results g.results h.1 in
    λ i. record { params = p i; results = r i }

signature_itself : (f : CoreFuncType) → same_signature f f ≡ true
signature_itself f = both_true (core_types_tell.itself f.params) (core_types_tell.itself f.results)

bounds_tell : Tells (options_agree same_number)
bounds_tell = options_tell same_number numbers_tell

extern_only : (a b : CoreExtern) → same_extern a b ≡ true → a ≡ b
extern_only (CoreExtern.Func f) (CoreExtern.Func g) e = ap CoreExtern.Func (signature_only f g e)
extern_only (CoreExtern.Table r i m w s) (CoreExtern.Table q j n v t) e =
    let a = and_parts (same_reference r q && (i == j) && options_agree same_number m n && bools_agree w v) (bools_agree s t) e in
    let b = and_parts (same_reference r q && (i == j) && options_agree same_number m n) (bools_agree w v) a.0 in
    let c = and_parts (same_reference r q && (i == j)) (options_agree same_number m n) b.0 in
    let d = and_parts (same_reference r q) (i == j) c.0 in
    let x = reference_only r q d.0 in
    let y = numbers_tell.only i j d.1 in
    let z = bounds_tell.only m n c.1 in
    let k = bools_only w v b.1 in
    let l = bools_only s t a.1 in
    λ o. CoreExtern.Table (x o) (y o) (z o) (k o) (l o)
extern_only (CoreExtern.Memory w s i m p) (CoreExtern.Memory v t j n q) e =
    let a = and_parts (bools_agree w v && bools_agree s t && (i == j) && options_agree same_number m n) (options_agree same_number p q) e in
    let b = and_parts (bools_agree w v && bools_agree s t && (i == j)) (options_agree same_number m n) a.0 in
    let c = and_parts (bools_agree w v && bools_agree s t) (i == j) b.0 in
    let d = and_parts (bools_agree w v) (bools_agree s t) c.0 in
    let x = bools_only w v d.0 in
    let y = bools_only s t d.1 in
    let z = numbers_tell.only i j c.1 in
    let k = bounds_tell.only m n b.1 in
    let l = bounds_tell.only p q a.1 in
    λ o. CoreExtern.Memory (x o) (y o) (z o) (k o) (l o)
extern_only (CoreExtern.Global a m s) (CoreExtern.Global b n t) e =
    let f = and_parts (same_core_type a b && bools_agree m n) (bools_agree s t) e in
    let g = and_parts (same_core_type a b) (bools_agree m n) f.0 in
    let x = core_type_only a b g.0 in
    let y = bools_only m n g.1 in
    let z = bools_only s t f.1 in
    λ o. CoreExtern.Global (x o) (y o) (z o)
extern_only (CoreExtern.Tag f) (CoreExtern.Tag g) e = ap CoreExtern.Tag (signature_only f g e)
extern_only _ _ e = absurd (cc e)

extern_itself : (a : CoreExtern) → same_extern a a ≡ true
extern_itself (CoreExtern.Func f) = signature_itself f
extern_itself (CoreExtern.Table r i m w s) = and5 (same_reference r r) (i == i) (options_agree same_number m m) (bools_agree w w) (bools_agree s s) (reference_itself r) (numbers_tell.itself i) (bounds_tell.itself m) (bools_itself w) (bools_itself s)
extern_itself (CoreExtern.Memory w s i m p) = and5 (bools_agree w w) (bools_agree s s) (i == i) (options_agree same_number m m) (options_agree same_number p p) (bools_itself w) (bools_itself s) (numbers_tell.itself i) (bounds_tell.itself m) (bounds_tell.itself p)
extern_itself (CoreExtern.Global a m s) = and3 (same_core_type a a) (bools_agree m m) (bools_agree s s) (core_type_itself a) (bools_itself m) (bools_itself s)
extern_itself (CoreExtern.Tag f) = signature_itself f

core_import_only : (a b : (Name × Name) × CoreExtern) → same_core_import a b ≡ true → a ≡ b
core_import_only a b e =
    let f = and_parts (bytes_eq a.0.0 b.0.0 && bytes_eq a.0.1 b.0.1) (same_extern a.1 b.1) e in
    let g = and_parts (bytes_eq a.0.0 b.0.0) (bytes_eq a.0.1 b.0.1) f.0 in
    let x = names_tell.only a.0.0 b.0.0 g.0 in
    let y = names_tell.only a.0.1 b.0.1 g.1 in
    let z = extern_only a.1 b.1 f.1 in
    λ o. ((x o, y o), z o)

core_import_itself : (a : (Name × Name) × CoreExtern) → same_core_import a a ≡ true
core_import_itself a = and3 (bytes_eq a.0.0 a.0.0) (bytes_eq a.0.1 a.0.1) (same_extern a.1 a.1) (names_tell.itself a.0.0) (names_tell.itself a.0.1) (extern_itself a.1)

pub imports_tell : Tells same_core_import
imports_tell = record { only = core_import_only; itself = core_import_itself }

core_imports_tell : Tells (lists_agree same_core_import)
core_imports_tell = lists_tell same_core_import imports_tell

core_export_only : (a b : Name × CoreExtern) → same_core_export a b ≡ true → a ≡ b
core_export_only a b e =
    let f = and_parts (bytes_eq a.0 b.0) (same_extern a.1 b.1) e in
    let x = names_tell.only a.0 b.0 f.0 in
    let z = extern_only a.1 b.1 f.1 in
    λ o. (x o, z o)

core_export_itself : (a : Name × CoreExtern) → same_core_export a a ≡ true
core_export_itself a = both_true (names_tell.itself a.0) (extern_itself a.1)

pub exports_tell : Tells same_core_export
exports_tell = record { only = core_export_only; itself = core_export_itself }

core_exports_tell : Tells (lists_agree same_core_export)
core_exports_tell = lists_tell same_core_export exports_tell

module_only : (m n : ModuleType) → same_module m n ≡ true → m ≡ n
module_only m n e =
    let f = and_parts (lists_agree same_core_import m.imports n.imports) (lists_agree same_core_export m.exports n.exports) e in
    let x = core_imports_tell.only m.imports n.imports f.0 in
    let y = core_exports_tell.only m.exports n.exports f.1 in
    λ o. record { imports = x o; exports = y o }

module_itself : (m : ModuleType) → same_module m m ≡ true
module_itself m = both_true (core_imports_tell.itself m.imports) (core_exports_tell.itself m.exports)

-- ---- labels

primitive_only : (a b : PrimitiveType) → same_primitive a b ≡ true → a ≡ b
primitive_only PrimitiveType.U8 PrimitiveType.U8 e = refl
primitive_only PrimitiveType.S8 PrimitiveType.S8 e = refl
primitive_only PrimitiveType.U16 PrimitiveType.U16 e = refl
primitive_only PrimitiveType.S16 PrimitiveType.S16 e = refl
primitive_only PrimitiveType.U32 PrimitiveType.U32 e = refl
primitive_only PrimitiveType.S32 PrimitiveType.S32 e = refl
primitive_only PrimitiveType.U64 PrimitiveType.U64 e = refl
primitive_only PrimitiveType.S64 PrimitiveType.S64 e = refl
primitive_only PrimitiveType.F32 PrimitiveType.F32 e = refl
primitive_only PrimitiveType.F64 PrimitiveType.F64 e = refl
primitive_only PrimitiveType.Char PrimitiveType.Char e = refl
primitive_only PrimitiveType.Bool PrimitiveType.Bool e = refl
primitive_only PrimitiveType.String PrimitiveType.String e = refl
primitive_only PrimitiveType.ErrorContext PrimitiveType.ErrorContext e = refl
primitive_only _ _ e = absurd (cc e)

primitive_itself : (a : PrimitiveType) → same_primitive a a ≡ true
primitive_itself PrimitiveType.U8 = refl
primitive_itself PrimitiveType.S8 = refl
primitive_itself PrimitiveType.U16 = refl
primitive_itself PrimitiveType.S16 = refl
primitive_itself PrimitiveType.U32 = refl
primitive_itself PrimitiveType.S32 = refl
primitive_itself PrimitiveType.U64 = refl
primitive_itself PrimitiveType.S64 = refl
primitive_itself PrimitiveType.F32 = refl
primitive_itself PrimitiveType.F64 = refl
primitive_itself PrimitiveType.Char = refl
primitive_itself PrimitiveType.Bool = refl
primitive_itself PrimitiveType.String = refl
primitive_itself PrimitiveType.ErrorContext = refl

texts_tell : Tells (options_agree bytes_eq)
texts_tell = options_tell bytes_eq names_tell

use_only : (a b : Name × Option Name) → same_use a b ≡ true → a ≡ b
use_only a b e =
    let f = and_parts (bytes_eq a.0 b.0) (options_agree bytes_eq a.1 b.1) e in
    let x = names_tell.only a.0 b.0 f.0 in
    let y = texts_tell.only a.1 b.1 f.1 in
    λ o. (x o, y o)

use_itself : (a : Name × Option Name) → same_use a a ≡ true
use_itself a = both_true (names_tell.itself a.0) (texts_tell.itself a.1)

uses_tell : Tells (lists_agree same_use)
uses_tell = lists_tell same_use (record { only = use_only; itself = use_itself })

label_only : (s t : Shape) → same_label s t ≡ true → s ≡ t
label_only (primitive p) (primitive q) e = ap primitive (primitive_only p q e)
label_only tuple tuple e = refl
label_only list list e = refl
label_only (fixed_size_list m) (fixed_size_list n) e = ap fixed_size_list (numbers_tell.only m n e)
label_only option option e = refl
label_only result result e = refl
label_only (variant ms) (variant ns) e = ap variant (same_names_tell.only ms ns e)
label_only (record_of ms) (record_of ns) e = ap record_of (same_names_tell.only ms ns e)
label_only (flags ms) (flags ns) e = ap flags (same_names_tell.only ms ns e)
label_only (enum ms) (enum ns) e = ap enum (same_names_tell.only ms ns e)
label_only alias alias e = refl
label_only stream stream e = refl
label_only future future e = refl
label_only (resource m) (resource n) e = ap resource (names_tell.only m n e)
label_only (resource_alias m) (resource_alias n) e = ap resource_alias (names_tell.only m n e)
label_only (func ms a) (func ns b) e =
    let f = and_parts (same_names ms ns) (bools_agree a b) e in
    let x = same_names_tell.only ms ns f.0 in
    let y = bools_only a b f.1 in
    λ o. func (x o) (y o)
label_only (interface i us es) (interface j vs fs) e =
    let f = and_parts (options_agree bytes_eq i j && lists_agree same_use us vs) (same_names es fs) e in
    let g = and_parts (options_agree bytes_eq i j) (lists_agree same_use us vs) f.0 in
    let x = texts_tell.only i j g.0 in
    let y = uses_tell.only us vs g.1 in
    let z = same_names_tell.only es fs f.1 in
    λ o. interface (x o) (y o) (z o)
label_only (world i us is es) (world j vs js fs) e =
    let f = and_parts (options_agree bytes_eq i j && lists_agree same_use us vs && same_names is js) (same_names es fs) e in
    let g = and_parts (options_agree bytes_eq i j && lists_agree same_use us vs) (same_names is js) f.0 in
    let h = and_parts (options_agree bytes_eq i j) (lists_agree same_use us vs) g.0 in
    let x = texts_tell.only i j h.0 in
    let y = uses_tell.only us vs h.1 in
    let z = same_names_tell.only is js g.1 in
    let k = same_names_tell.only es fs f.1 in
    λ o. world (x o) (y o) (z o) (k o)
label_only (module_type m) (module_type n) e = ap module_type (module_only m n e)
label_only (type_of s) (type_of t) e = ap type_of (label_only s t e)
label_only (borrow_of s) (borrow_of t) e = ap borrow_of (label_only s t e)
label_only (own_of s) (own_of t) e = ap own_of (label_only s t e)
label_only _ _ e = absurd (cc e)

label_itself : (s : Shape) → same_label s s ≡ true
label_itself (primitive p) = primitive_itself p
label_itself tuple = refl
label_itself list = refl
label_itself (fixed_size_list n) = numbers_tell.itself n
label_itself option = refl
label_itself result = refl
label_itself (variant ns) = same_names_tell.itself ns
label_itself (record_of ns) = same_names_tell.itself ns
label_itself (flags ns) = same_names_tell.itself ns
label_itself (enum ns) = same_names_tell.itself ns
label_itself alias = refl
label_itself stream = refl
label_itself future = refl
label_itself (resource n) = names_tell.itself n
label_itself (resource_alias n) = names_tell.itself n
label_itself (func ns a) = both_true (same_names_tell.itself ns) (bools_itself a)
label_itself (interface i us es) = and3 (options_agree bytes_eq i i) (lists_agree same_use us us) (same_names es es) (texts_tell.itself i) (uses_tell.itself us) (same_names_tell.itself es)
label_itself (world i us is es) = and4 (options_agree bytes_eq i i) (lists_agree same_use us us) (same_names is is) (same_names es es) (texts_tell.itself i) (uses_tell.itself us) (same_names_tell.itself is) (same_names_tell.itself es)
label_itself (module_type m) = module_itself m
label_itself (type_of s) = label_itself s
label_itself (borrow_of s) = label_itself s
label_itself (own_of s) = label_itself s

pub labels_tell : Tells same_label
labels_tell = record { only = label_only; itself = label_itself }

-- ---- trees

mutual
  tree_only : (t u : Tree) → same_tree t u ≡ true → t ≡ u
  tree_only (rigid s r) (rigid t q) e =
      let f = and_parts (same_label s t) (same_row r q) e in
      let x = label_only s t f.0 in
      let y = row_only r q f.1 in
      λ o. rigid (x o) (y o)
  tree_only (instance xs) (instance ys) e = ap instance (fields_only xs ys e)
  tree_only (component is es) (component js fs) e =
      let f = and_parts (same_fields is js) (same_fields es fs) e in
      let x = fields_only is js f.0 in
      let y = fields_only es fs f.1 in
      λ o. component (x o) (y o)
  tree_only (core_module is es) (core_module js fs) e =
      let f = and_parts (lists_agree same_core_import is js) (lists_agree same_core_export es fs) e in
      let x = core_imports_tell.only is js f.0 in
      let y = core_exports_tell.only es fs f.1 in
      λ o. core_module (x o) (y o)
  tree_only (handle_own t) (handle_own u) e = ap handle_own (tree_only t u e)
  tree_only (handle_borrow t) (handle_borrow u) e = ap handle_borrow (tree_only t u e)
  tree_only (type_item t) (type_item u) e = ap type_item (tree_only t u e)
  tree_only _ _ e = absurd (cc e)

  row_only : (r q : Row) → same_row r q ≡ true → r ≡ q
  row_only end end e = refl
  row_only (gap r) (gap q) e = ap gap (row_only r q e)
  row_only (place t r) (place u q) e =
      let f = and_parts (same_tree t u) (same_row r q) e in
      let x = tree_only t u f.0 in
      let y = row_only r q f.1 in
      λ o. place (x o) (y o)
  row_only _ _ e = absurd (cc e)

  fields_only : (xs ys : Fields) → same_fields xs ys ≡ true → xs ≡ ys
  fields_only no_fields no_fields e = refl
  fields_only (field m t xs) (field n u ys) e =
      let f = and_parts (bytes_eq m n && same_tree t u) (same_fields xs ys) e in
      let g = and_parts (bytes_eq m n) (same_tree t u) f.0 in
      let x = names_tell.only m n g.0 in
      let y = tree_only t u g.1 in
      let z = fields_only xs ys f.1 in
      λ o. field (x o) (y o) (z o)
  fields_only _ _ e = absurd (cc e)

mutual
  tree_itself : (t : Tree) → same_tree t t ≡ true
  tree_itself (rigid s r) = both_true (label_itself s) (row_itself r)
  tree_itself (instance xs) = fields_itself xs
  tree_itself (component is es) = both_true (fields_itself is) (fields_itself es)
  tree_itself (core_module is es) = both_true (core_imports_tell.itself is) (core_exports_tell.itself es)
  tree_itself (handle_own t) = tree_itself t
  tree_itself (handle_borrow t) = tree_itself t
  tree_itself (type_item t) = tree_itself t

  row_itself : (r : Row) → same_row r r ≡ true
  row_itself end = refl
  row_itself (gap r) = row_itself r
  row_itself (place t r) = both_true (tree_itself t) (row_itself r)

  fields_itself : (xs : Fields) → same_fields xs xs ≡ true
  fields_itself no_fields = refl
  fields_itself (field m t xs) = both_true (both_true (names_tell.itself m) (tree_itself t)) (fields_itself xs)

pub trees_tell : Tells same_tree
trees_tell = record { only = tree_only; itself = tree_itself }
