-- Tests of labels, stated types and trees: the first two whether they are equal, the last whether one fits another.
use Rattle.std.specs.Prelude.{◌==◌, ℕ, Bool, true, false, not, ◌&&◌, List, [], ◌∷◌, Option, Some, None, bytes_eq, if◌then◌else◌}
use Rattle.std.specs.List.{list_all, list_any}
use Rattle.wac_types_base.specs.declared.item.PrimitiveType.{PrimitiveType}
use Rattle.wac_types_base.specs.declared.core_types.HeapType.{HeapType}
use Rattle.wac_types_base.specs.declared.core_types.CoreRefType.{CoreRefType}
use Rattle.wac_types_base.specs.declared.core_types.CoreType.{CoreType}
use Rattle.wac_types_base.specs.declared.core_types.CoreFuncType.{CoreFuncType}
use Rattle.wac_types_base.specs.declared.core_types.CoreExtern.{CoreExtern}
use Rattle.wac_types_base.specs.declared.core_types.ModuleType.{ModuleType}
use Rattle.wac_types_base.specs.Entries.{Name, value_at}
use Rattle.wac_types_base.specs.Collection.{Shape, primitive, tuple, list, fixed_size_list, option, result, variant, record_of, flags, enum, alias, stream, future, resource, resource_alias, func, interface, world, module_type, type_of, borrow_of, own_of}
use Rattle.wac_types_base.specs.Stated.{Stated, folded, shape_of, places_of}
use Rattle.wac_types_base.specs.Tree.{Tree, rigid, instance, component, core_module, handle_own, handle_borrow, type_item, Row, end, place, gap, Fields, no_fields, field, tree}

-- both lists are as long, and their items agree
abbrev pub lists_agree : {A : Type 0} → (A → A → Bool) → List A → List A → Bool
lists_agree p [] [] = true
lists_agree p (x ∷ xs) (y ∷ ys) = p x y && lists_agree p xs ys
lists_agree p _ _ = false

abbrev pub options_agree : {A : Type 0} → (A → A → Bool) → Option A → Option A → Bool
options_agree p None None = true
options_agree p (Some x) (Some y) = p x y
options_agree p _ _ = false

abbrev pub bools_agree : Bool → Bool → Bool
bools_agree true b = b
bools_agree false b = not b

abbrev pub same_names : List Name → List Name → Bool
same_names = lists_agree bytes_eq

-- ---- core items

abbrev pub same_heap : HeapType → HeapType → Bool
same_heap (HeapType.Concrete m) (HeapType.Concrete n) = m == n
same_heap HeapType.Func HeapType.Func = true
same_heap HeapType.Extern HeapType.Extern = true
same_heap HeapType.Any HeapType.Any = true
same_heap HeapType.None HeapType.None = true
same_heap HeapType.NoExtern HeapType.NoExtern = true
same_heap HeapType.NoFunc HeapType.NoFunc = true
same_heap HeapType.Eq HeapType.Eq = true
same_heap HeapType.Struct HeapType.Struct = true
same_heap HeapType.Array HeapType.Array = true
same_heap HeapType.I31 HeapType.I31 = true
same_heap HeapType.Exn HeapType.Exn = true
same_heap HeapType.NoExn HeapType.NoExn = true
same_heap HeapType.Cont HeapType.Cont = true
same_heap HeapType.NoCont HeapType.NoCont = true
same_heap _ _ = false

abbrev pub same_reference : CoreRefType → CoreRefType → Bool
same_reference a b = bools_agree a.nullable b.nullable && same_heap a.heap_type b.heap_type

abbrev pub same_core_type : CoreType → CoreType → Bool
same_core_type CoreType.I32 CoreType.I32 = true
same_core_type CoreType.I64 CoreType.I64 = true
same_core_type CoreType.F32 CoreType.F32 = true
same_core_type CoreType.F64 CoreType.F64 = true
same_core_type CoreType.V128 CoreType.V128 = true
same_core_type (CoreType.Ref a) (CoreType.Ref b) = same_reference a b
same_core_type _ _ = false

abbrev pub same_signature : CoreFuncType → CoreFuncType → Bool
same_signature f g = lists_agree same_core_type f.params g.params && lists_agree same_core_type f.results g.results

abbrev pub same_number : ℕ → ℕ → Bool
same_number m n = m == n

abbrev pub same_extern : CoreExtern → CoreExtern → Bool
same_extern (CoreExtern.Func f) (CoreExtern.Func g) = same_signature f g
same_extern (CoreExtern.Table r i m w s) (CoreExtern.Table q j n v t) =
    same_reference r q && (i == j) && options_agree same_number m n && bools_agree w v && bools_agree s t
same_extern (CoreExtern.Memory w s i m p) (CoreExtern.Memory v t j n q) =
    bools_agree w v && bools_agree s t && (i == j) && options_agree same_number m n && options_agree same_number p q
same_extern (CoreExtern.Global a m s) (CoreExtern.Global b n t) = same_core_type a b && bools_agree m n && bools_agree s t
same_extern (CoreExtern.Tag f) (CoreExtern.Tag g) = same_signature f g
same_extern _ _ = false

abbrev pub same_core_import : (Name × Name) × CoreExtern → (Name × Name) × CoreExtern → Bool
same_core_import a b = bytes_eq a.0.0 b.0.0 && bytes_eq a.0.1 b.0.1 && same_extern a.1 b.1

abbrev pub same_core_export : Name × CoreExtern → Name × CoreExtern → Bool
same_core_export a b = bytes_eq a.0 b.0 && same_extern a.1 b.1

abbrev pub same_module : ModuleType → ModuleType → Bool
same_module m n = lists_agree same_core_import m.imports n.imports && lists_agree same_core_export m.exports n.exports

-- ---- labels

abbrev pub same_primitive : PrimitiveType → PrimitiveType → Bool
same_primitive PrimitiveType.U8 PrimitiveType.U8 = true
same_primitive PrimitiveType.S8 PrimitiveType.S8 = true
same_primitive PrimitiveType.U16 PrimitiveType.U16 = true
same_primitive PrimitiveType.S16 PrimitiveType.S16 = true
same_primitive PrimitiveType.U32 PrimitiveType.U32 = true
same_primitive PrimitiveType.S32 PrimitiveType.S32 = true
same_primitive PrimitiveType.U64 PrimitiveType.U64 = true
same_primitive PrimitiveType.S64 PrimitiveType.S64 = true
same_primitive PrimitiveType.F32 PrimitiveType.F32 = true
same_primitive PrimitiveType.F64 PrimitiveType.F64 = true
same_primitive PrimitiveType.Char PrimitiveType.Char = true
same_primitive PrimitiveType.Bool PrimitiveType.Bool = true
same_primitive PrimitiveType.String PrimitiveType.String = true
same_primitive PrimitiveType.ErrorContext PrimitiveType.ErrorContext = true
same_primitive _ _ = false

abbrev pub same_use : Name × Option Name → Name × Option Name → Bool
same_use a b = bytes_eq a.0 b.0 && options_agree bytes_eq a.1 b.1

abbrev pub same_label : Shape → Shape → Bool
same_label (primitive p) (primitive q) = same_primitive p q
same_label tuple tuple = true
same_label list list = true
same_label (fixed_size_list m) (fixed_size_list n) = m == n
same_label option option = true
same_label result result = true
same_label (variant ms) (variant ns) = same_names ms ns
same_label (record_of ms) (record_of ns) = same_names ms ns
same_label (flags ms) (flags ns) = same_names ms ns
same_label (enum ms) (enum ns) = same_names ms ns
same_label alias alias = true
same_label stream stream = true
same_label future future = true
same_label (resource m) (resource n) = bytes_eq m n
same_label (resource_alias m) (resource_alias n) = bytes_eq m n
same_label (func ms a) (func ns b) = same_names ms ns && bools_agree a b
same_label (interface i us es) (interface j vs fs) = options_agree bytes_eq i j && lists_agree same_use us vs && same_names es fs
same_label (world i us is es) (world j vs js fs) =
    options_agree bytes_eq i j && lists_agree same_use us vs && same_names is js && same_names es fs
same_label (module_type m) (module_type n) = same_module m n
same_label (type_of s) (type_of t) = same_label s t
same_label (borrow_of s) (borrow_of t) = same_label s t
same_label (own_of s) (own_of t) = same_label s t
same_label _ _ = false

-- ---- stated types, with identifiers, uses and owners

abbrev pub same_places : List (Option (Stated × (Stated → Bool))) → List (Option Stated) → Bool
same_places [] [] = true
same_places (None ∷ xs) (None ∷ ys) = same_places xs ys
same_places (Some x ∷ xs) (Some y ∷ ys) = x.1 y && same_places xs ys
same_places _ _ = false

abbrev pub same : Stated → Stated → Bool
same = folded (λ s os t. same_label s (shape_of t) && same_places os (places_of t))

-- ---- trees

abbrev pub same_core_imports : List ((Name × Name) × CoreExtern) → List ((Name × Name) × CoreExtern) → Bool
same_core_imports = lists_agree same_core_import

abbrev pub same_core_exports : List (Name × CoreExtern) → List (Name × CoreExtern) → Bool
same_core_exports = lists_agree same_core_export

abbrev mutual
  pub same_tree : Tree → Tree → Bool
  same_tree (rigid s r) (rigid t q) = same_label s t && same_row r q
  same_tree (instance xs) (instance ys) = same_fields xs ys
  same_tree (component is es) (component js fs) = same_fields is js && same_fields es fs
  same_tree (core_module is es) (core_module js fs) = same_core_imports is js && same_core_exports es fs
  same_tree (handle_own t) (handle_own u) = same_tree t u
  same_tree (handle_borrow t) (handle_borrow u) = same_tree t u
  same_tree (type_item t) (type_item u) = same_tree t u
  same_tree _ _ = false

  pub same_row : Row → Row → Bool
  same_row end end = true
  same_row (gap r) (gap q) = same_row r q
  same_row (place t r) (place u q) = same_tree t u && same_row r q
  same_row _ _ = false

  pub same_fields : Fields → Fields → Bool
  same_fields no_fields no_fields = true
  same_fields (field m t xs) (field n u ys) = bytes_eq m n && same_tree t u && same_fields xs ys
  same_fields _ _ = false

-- ---- fitting. `fit a true b`: a fits b; `fit a false b`: b fits a

abbrev pub FitTest : Type 0
FitTest = Bool → Tree → Bool

-- what the map has under a name, if that is so
abbrev pub field_is : (Tree → Bool) → Name → Fields → Bool
field_is p n no_fields = false
field_is p n (field m t xs) = if bytes_eq n m then p t else field_is p n xs

abbrev pub passes : Option FitTest → Bool → Tree → Bool
passes None b t = false
passes (Some p) b t = p b t

-- each field of the second is one of the first, that fits
abbrev pub gives_all : List (Name × FitTest) → Fields → Bool
gives_all ts no_fields = true
gives_all ts (field n u ys) = passes (value_at ts n) true u && gives_all ts ys

-- each field of the first is one of the second, that fits it
abbrev pub are_given : List (Name × FitTest) → Fields → Bool
are_given ts ys = list_all (λ t. field_is (t.1 false) t.0 ys) ts

abbrev pub fields_fit : Bool → List (Name × FitTest) → Fields → Bool
fields_fit true = gives_all
fields_fit false = are_given

-- each member of the second is one of the first
abbrev pub covers : {A : Type 0} → (A → A → Bool) → List A → List A → Bool
covers p xs ys = list_all (λ y. list_any (p y) xs) ys

abbrev pub covers_by : {A : Type 0} → Bool → (A → A → Bool) → List A → List A → Bool
covers_by true p xs ys = covers p xs ys
covers_by false p xs ys = covers p ys xs

abbrev mutual
  pub fit : Tree → FitTest
  fit (instance xs) b (instance ys) = fields_fit b (tests xs) ys
  fit (component is es) b (component js fs) = fields_fit (not b) (tests is) js && fields_fit b (tests es) fs
  fit (core_module is es) b (core_module js fs) = covers_by (not b) same_core_import is js && covers_by b same_core_export es fs
  fit (type_item t) b (type_item u) = fit t b u
  fit (handle_own t) b (handle_own u) = same_tree t u
  fit (handle_borrow t) b (handle_borrow u) = same_tree t u
  fit (rigid s r) b (rigid t q) = same_label s t && same_row r q
  fit _ b _ = false

  pub tests : Fields → List (Name × FitTest)
  tests no_fields = []
  tests (field n t xs) = (n, fit t) ∷ tests xs

-- one stated type fits another
abbrev pub fits : Stated → Stated → Bool
fits a b = fit (tree a) true (tree b)
