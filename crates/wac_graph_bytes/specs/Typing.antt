-- What an index stands for, and the trees of the types that bytes state.
use Rattle.std.specs.Prelude.{ℕ, Bool, true, false, List, [], ◌∷◌, ◌++◌, map, Option, Some, None, slice_get, not, ◌&&◌, ◌==◌}
use Rattle.std.specs.List.{list_all}
use Rattle.std.specs.Ordering.{nat_cmp}
use Rattle.std.specs.Cmp.Lexicographic.{slice_cmp, pointwise}
use Rattle.std.specs.declared.cmp.Ordering.{Ordering}
use Rattle.wac_types_base.specs.Collection.{Shape, primitive, tuple, list, fixed_size_list, option, result, variant, record_of, flags, enum, stream, future, resource, func}
use Rattle.wac_types_base.specs.Tree.{Tree, rigid, instance, component, core_module, handle_own, handle_borrow, type_item, Row, end, place, gap, Fields, no_fields, field, put, ascending, name_cmp, pair_cmp}
use Rattle.wac_types_base.specs.declared.core_types.CoreType.{CoreType}
use Rattle.wac_types_base.specs.declared.core_types.CoreExtern.{CoreExtern}
use Rattle.wac_types_base.specs.declared.core_types.CoreFuncType.{CoreFuncType}
use Rattle.wac_types_base.specs.declared.core_types.CoreRefType.{CoreRefType}
use Rattle.wac_types_base.specs.declared.core_types.HeapType.{HeapType}
use Rattle.wac_graph_bytes.specs.declared.value.Sort.{Sort}
use Rattle.wac_graph_bytes.specs.declared.value.Sort.TheVariants as sort
use Rattle.wac_graph_bytes.specs.declared.value.ValueType.{ValueType}
use Rattle.wac_graph_bytes.specs.declared.value.ValueType.TheVariants.{Primitive, Index}
use Rattle.wac_graph_bytes.specs.declared.value.Description.{Description}
use Rattle.wac_graph_bytes.specs.declared.value.Description.TheVariants as desc
use Rattle.wac_graph_bytes.specs.declared.module.CoreReference.{CoreReference}
use Rattle.wac_graph_bytes.specs.declared.module.CoreReference.TheVariants as reference
use Rattle.wac_graph_bytes.specs.declared.module.CoreValue.{CoreValue}
use Rattle.wac_graph_bytes.specs.declared.module.CoreValue.TheVariants as value
use Rattle.wac_graph_bytes.specs.declared.module.CoreDescription.{CoreDescription}
use Rattle.wac_graph_bytes.specs.declared.module.CoreDescription.TheVariants as core
use Rattle.wac_types_base.specs.Entries.{Name, names_of}
use Rattle.wac_graph_bytes.specs.Entries.{DefinedType, PrimitiveEntry, RecordEntry, VariantEntry, ListEntry, OptionEntry, FixedListEntry, TupleEntry, FlagsEntry, EnumEntry, ResultEntry, OwnEntry, BorrowEntry, StreamEntry, FutureEntry, FuncEntry, Alias, ExportAlias, OuterAlias, CoreDeclaration, CoreImport, CoreSignature, CoreExport, Declarations, End, CoreThen, TypeThen, ComponentTypeThen, InstanceTypeThen, AliasThen, ImportThen, ExportThen, TypeEntry, PlainType, ComponentType, InstanceType}
use Rattle.wac_graph_bytes.specs.Wirings.{Tag}

-- the next step, where there is a value
infixl 10 ◌>>=◌
abbrev pub ◌>>=◌ : {A B : Type 0} → Option A → (A → Option B) → Option B
None >>= f = None
(Some x) >>= f = f x

-- ---- scopes

-- what an index stands for
pub data Meaning : Type 0 where
  -- an import, or inside a type an import or an export: its name, its sort, and its tree as an item
  Item : Name → Sort → Tree → Meaning
  -- an instance that was made, by its number, and what it is made of
  Made : (number : ℕ) → Tag → Meaning
  -- an export of an instance, and its sort
  Part : Meaning → Sort → Name → Meaning
  -- the type that a type entry states
  Known : Tree → Meaning
  -- a nested component
  Code : (bytes : List ℕ) → Meaning

-- what the indexes of each sort stand for, in order; and the core types
pub record Scope : Type 0 where
  pub funcs : List Meaning
  pub types : List Meaning
  pub components : List Meaning
  pub instances : List Meaning
  pub modules : List Meaning
  pub cores : List Tree

abbrev pub no_scope : Scope
no_scope = record { funcs = []; types = []; components = []; instances = []; modules = []; cores = [] }

abbrev pub space : Sort → Scope → List Meaning
space sort.Func s = s.funcs
space sort.Ty s = s.types
space sort.Component s = s.components
space sort.Instance s = s.instances
space sort.Module s = s.modules

-- the scope with one more index of a sort
abbrev pub with_one : Sort → Meaning → Scope → Scope
with_one sort.Func m s = record s { funcs = s.funcs ++ m ∷ [] }
with_one sort.Ty m s = record s { types = s.types ++ m ∷ [] }
with_one sort.Component m s = record s { components = s.components ++ m ∷ [] }
with_one sort.Instance m s = record s { instances = s.instances ++ m ∷ [] }
with_one sort.Module m s = record s { modules = s.modules ++ m ∷ [] }

abbrev pub with_core : Tree → Scope → Scope
with_core t s = record s { cores = s.cores ++ t ∷ [] }

-- in a stack of scopes, the present one first, the index that many scopes further out
abbrev pub found_at : List Scope → ℕ → Sort → ℕ → Option Meaning
found_at ss count s i = slice_get ss count >>= λ here. slice_get (space s here) i

abbrev pub found : List Scope → Sort → ℕ → Option Meaning
found ss s i = found_at ss 0 s i

-- ---- the tree of what an index stands for

abbrev pub get_at : Ordering → Tree → Option Tree → Option Tree
get_at Ordering.Less t rest = rest
get_at Ordering.Equal t rest = Some t
get_at Ordering.Greater t rest = rest

-- what is under a name
abbrev pub get : Name → Fields → Option Tree
get n no_fields = None
get n (field m t xs) = get_at (slice_cmp nat_cmp n m) t (get n xs)

-- a type as an item; a resource is one already
abbrev pub item_of : Tree → Tree
item_of (rigid (resource n) r) = rigid (resource n) r
item_of t = type_item t

-- the type that an item is
abbrev pub type_in : Tree → Option Tree
type_in (type_item t) = Some t
type_in (rigid (resource n) r) = Some (rigid (resource n) r)
type_in _ = None

-- the tree of an export of an instance
abbrev pub export_named : Name → Tree → Option Tree
export_named n (instance xs) = get n xs
export_named n _ = None

-- what the worlds say of an instance: for each component that it may be made of, the tree of its instances, where that is known
abbrev pub Worlds : Type 0
Worlds = Tag → Option Tree

-- the tree of an item, where it is known
abbrev pub item_tree : Worlds → Meaning → Option Tree
item_tree worlds (Item n s t) = Some t
item_tree worlds (Made k tag) = worlds tag
item_tree worlds (Part m s n) = item_tree worlds m >>= export_named n
item_tree worlds (Known t) = Some (item_of t)
item_tree worlds (Code bytes) = None

-- the type that an index of a type stands for
abbrev pub type_tree : Worlds → Meaning → Option Tree
type_tree worlds (Known t) = Some t
type_tree worlds m = item_tree worlds m >>= type_in

abbrev pub type_at : Worlds → List Scope → ℕ → Option Tree
type_at worlds ss i = found ss sort.Ty i >>= type_tree worlds

-- ---- types of values

abbrev pub value_shape : Shape → Bool
value_shape (primitive p) = true
value_shape tuple = true
value_shape list = true
value_shape (fixed_size_list n) = true
value_shape option = true
value_shape result = true
value_shape (variant ns) = true
value_shape (record_of ns) = true
value_shape (flags ns) = true
value_shape (enum ns) = true
value_shape stream = true
value_shape future = true
value_shape _ = false

abbrev pub some_if : Bool → Tree → Option Tree
some_if true t = Some t
some_if false t = None

-- the tree, if it is one of a value's type
abbrev pub as_value : Tree → Option Tree
as_value (rigid s r) = some_if (value_shape s) (rigid s r)
as_value (handle_own t) = Some (handle_own t)
as_value (handle_borrow t) = Some (handle_borrow t)
as_value _ = None

-- the tree, if it is a resource's
abbrev pub as_resource : Tree → Option Tree
as_resource (rigid (resource n) r) = Some (rigid (resource n) r)
as_resource _ = None

abbrev pub as_func : Tree → Option Tree
as_func (rigid (func ns a) r) = Some (rigid (func ns a) r)
as_func _ = None

-- a type of the kind that a description asks
abbrev pub as_sort : Sort → Tree → Option Tree
as_sort sort.Func t = as_func t
as_sort sort.Instance (instance xs) = Some (instance xs)
as_sort sort.Component (component is es) = Some (component is es)
as_sort sort.Module (core_module is es) = Some (core_module is es)
as_sort sort.Ty t = Some t
as_sort _ _ = None

-- an item of that sort
abbrev pub item_of_sort : Sort → Tree → Option Tree
item_of_sort sort.Ty t = type_in t
item_of_sort s t = as_sort s t

abbrev pub value_of : Worlds → List Scope → ValueType → Option Tree
value_of worlds ss (Primitive p) = Some (rigid (primitive p) end)
value_of worlds ss (Index i) = type_at worlds ss i >>= as_value

-- a place with the type's tree, or a gap, before others
abbrev pub value_if : Worlds → List Scope → Option ValueType → Row → Option Row
value_if worlds ss None r = Some (gap r)
value_if worlds ss (Some t) r = value_of worlds ss t >>= λ v. Some (place v r)

-- the places of these types, before others
abbrev pub values_of : Worlds → List Scope → List ValueType → Row → Option Row
values_of worlds ss [] r = Some r
values_of worlds ss (t ∷ ts) r = values_of worlds ss ts r >>= value_if worlds ss (Some t)

abbrev pub fields_of : Worlds → List Scope → List (Name × ValueType) → Row → Option Row
fields_of worlds ss [] r = Some r
fields_of worlds ss (f ∷ fs) r = fields_of worlds ss fs r >>= value_if worlds ss (Some f.1)

abbrev pub cases_of : Worlds → List Scope → List (Name × Option ValueType) → Row → Option Row
cases_of worlds ss [] r = Some r
cases_of worlds ss (c ∷ cs) r = cases_of worlds ss cs r >>= value_if worlds ss c.1

abbrev pub shaped : Shape → Option Row → Option Tree
shaped s o = o >>= λ r. Some (rigid s r)

-- the type that an entry without declarations states
abbrev pub defined : Worlds → List Scope → DefinedType → Option Tree
defined worlds ss (PrimitiveEntry p) = Some (rigid (primitive p) end)
defined worlds ss (RecordEntry fs) = shaped (record_of (names_of fs)) (fields_of worlds ss fs end)
defined worlds ss (VariantEntry cs) = shaped (variant (names_of cs)) (cases_of worlds ss cs end)
defined worlds ss (ListEntry t) = shaped list (value_if worlds ss (Some t) end)
defined worlds ss (OptionEntry t) = shaped option (value_if worlds ss (Some t) end)
defined worlds ss (FixedListEntry t n) = shaped (fixed_size_list n) (value_if worlds ss (Some t) end)
defined worlds ss (TupleEntry ts) = shaped tuple (values_of worlds ss ts end)
defined worlds ss (FlagsEntry ns) = Some (rigid (flags ns) end)
defined worlds ss (EnumEntry ns) = Some (rigid (enum ns) end)
defined worlds ss (ResultEntry ok err) = shaped result (value_if worlds ss err end >>= value_if worlds ss ok)
defined worlds ss (OwnEntry i) = type_at worlds ss i >>= as_resource >>= λ t. Some (handle_own t)
defined worlds ss (BorrowEntry i) = type_at worlds ss i >>= as_resource >>= λ t. Some (handle_borrow t)
defined worlds ss (StreamEntry t) = shaped stream (value_if worlds ss t end)
defined worlds ss (FutureEntry t) = shaped future (value_if worlds ss t end)
defined worlds ss (FuncEntry a params answer) =
    shaped (func (names_of params) a) (value_if worlds ss answer end >>= fields_of worlds ss params)

-- ---- core module types, with a space of signatures of their own

abbrev pub core_reference_type : CoreReference → CoreRefType
core_reference_type reference.Func = record { nullable = true; heap_type = HeapType.Func }
core_reference_type reference.Extern = record { nullable = true; heap_type = HeapType.Extern }

abbrev pub core_type : CoreValue → CoreType
core_type value.I32 = CoreType.I32
core_type value.I64 = CoreType.I64
core_type value.F32 = CoreType.F32
core_type value.F64 = CoreType.F64
core_type value.V128 = CoreType.V128
core_type (value.Reference r) = CoreType.Ref (core_reference_type r)

abbrev pub signature : List CoreValue → List CoreValue → CoreFuncType
signature params results = record { params = map core_type params; results = map core_type results }

abbrev pub core_item : List CoreFuncType → CoreDescription → Option CoreExtern
core_item sigs (core.Func i) = slice_get sigs i >>= λ f. Some (CoreExtern.Func f)
core_item sigs (core.Table r l) = Some (CoreExtern.Table (core_reference_type r) l.minimum l.maximum l.wide false)
core_item sigs (core.Memory l shared) = Some (CoreExtern.Memory l.wide shared l.minimum l.maximum None)
core_item sigs (core.Global t mutable) = Some (CoreExtern.Global (core_type t) mutable false)
core_item sigs (core.Tag i) = slice_get sigs i >>= λ f. Some (CoreExtern.Tag f)

-- ---- maps from names, where no name stands twice

abbrev pub same_name : Name → Name → Bool
same_name a b = pointwise ◌==◌ a b

-- whether none of the names is that one, by a test of two names
abbrev pub is_new : {K : Type 0} → (K → K → Bool) → K → List K → Bool
is_new same n ns = list_all (λ m. not (same n m)) ns

-- whether no name stands twice, by a test of two names
abbrev pub are_distinct : {K : Type 0} → (K → K → Bool) → List K → Bool
are_distinct same [] = true
are_distinct same (n ∷ ns) = is_new same n ns && are_distinct same ns

abbrev pub distinct_names : List Name → Bool
distinct_names ns = are_distinct same_name ns

-- the map from these names to these trees
abbrev pub fields_in : List (Name × Tree) → Fields
fields_in [] = no_fields
fields_in (x ∷ xs) = put x.0 x.1 (fields_in xs)

abbrev pub instance_of : List (Name × Tree) → Option Tree
instance_of es = some_if (distinct_names (names_of es)) (instance (fields_in es))

abbrev pub component_of : List (Name × Tree) → List (Name × Tree) → Option Tree
component_of is es =
    some_if (distinct_names (names_of is) && distinct_names (names_of es)) (component (fields_in is) (fields_in es))

-- the same of core items; an import has two names
abbrev pub same_pair : Name × Name → Name × Name → Bool
same_pair a b = same_name a.0 b.0 && same_name a.1 b.1

abbrev pub module_with : List ((Name × Name) × CoreExtern) → List (Name × CoreExtern) → Option Tree
module_with is es =
    some_if (are_distinct same_pair (names_of is) && distinct_names (names_of es))
    (core_module (ascending pair_cmp is) (ascending name_cmp es))

-- ---- declarations

-- what the declarations of a core module type state, one after another, behind these signatures, imports and exports
abbrev pub module_by : List CoreFuncType → List ((Name × Name) × CoreExtern) → List (Name × CoreExtern) → List CoreDeclaration
    → Option Tree
module_by sigs is es [] = module_with is es
module_by sigs is es (CoreImport from n d ∷ ds) = core_item sigs d >>= λ x. module_by sigs (is ++ ((from, n), x) ∷ []) es ds
module_by sigs is es (CoreSignature params results ∷ ds) = module_by (sigs ++ signature params results ∷ []) is es ds
module_by sigs is es (CoreExport n d ∷ ds) = core_item sigs d >>= λ x. module_by sigs is (es ++ (n, x) ∷ []) ds

abbrev pub module_tree : List CoreDeclaration → Option Tree
module_tree ds = module_by [] [] [] ds

abbrev pub described_as : Worlds → List Scope → Sort → ℕ → Option (Sort × Tree)
described_as worlds ss s i = type_at worlds ss i >>= as_sort s >>= λ t. Some (s, t)

-- what an import or an export under that name is said to be: its sort, and its tree as an item
abbrev pub described : Worlds → List Scope → Name → Description → Option (Sort × Tree)
described worlds ss n (desc.Module i) = slice_get ss 0 >>= λ here. slice_get here.cores i >>= λ t. Some (sort.Module, t)
described worlds ss n (desc.Func i) = described_as worlds ss sort.Func i
described worlds ss n (desc.Equal i) = type_at worlds ss i >>= λ t. Some (sort.Ty, item_of t)
described worlds ss n desc.Resource = Some (sort.Ty, rigid (resource n) end)
described worlds ss n (desc.Component i) = described_as worlds ss sort.Component i
described worlds ss n (desc.Instance i) = described_as worlds ss sort.Instance i

abbrev pub alias_sort : Alias → Sort
alias_sort (ExportAlias s i n) = s
alias_sort (OuterAlias s count i) = s

-- an export of an instance whose tree is known must be there, and of that sort
abbrev pub part_of : Option Tree → Meaning → Sort → Name → Option Meaning
part_of None m s n = Some (Part m s n)
part_of (Some t) m s n = export_named n t >>= item_of_sort s >>= λ t. Some (Part m s n)

abbrev pub alias_of : Worlds → List Scope → Alias → Option Meaning
alias_of worlds ss (ExportAlias s i n) = found ss sort.Instance i >>= λ m. part_of (item_tree worlds m) m s n
alias_of worlds ss (OuterAlias s count i) = found_at ss count s i

-- inside a type: what stands in its scope so far, and its imports and exports, in order
pub record Inside : Type 0 where
  pub here : Scope
  pub imports : List (Name × Tree)
  pub exports : List (Name × Tree)

abbrev pub nothing_inside : Inside
nothing_inside = record { here = no_scope; imports = []; exports = [] }

abbrev pub adds_inside : Sort → Meaning → Inside → Inside
adds_inside s m i = record i { here = with_one s m i.here }

abbrev pub imports_inside : Name → Sort × Tree → Inside → Inside
imports_inside n d i =
    record { here = with_one d.0 (Item n d.0 d.1) i.here; imports = i.imports ++ (n, d.1) ∷ []; exports = i.exports }

abbrev pub exports_inside : Name → Sort × Tree → Inside → Inside
exports_inside n d i =
    record { here = with_one d.0 (Item n d.0 d.1) i.here; imports = i.imports; exports = i.exports ++ (n, d.1) ∷ [] }

-- an instance type imports nothing
abbrev pub instance_by : List (Name × Tree) → List (Name × Tree) → Option Tree
instance_by [] es = instance_of es
instance_by (x ∷ is) es = None

abbrev pub instance_tree : Inside → Option Tree
instance_tree i = instance_by i.imports i.exports

abbrev pub component_tree : Inside → Option Tree
component_tree i = component_of i.imports i.exports

-- what declarations state, one after another, in a scope of their own below the others
unfoldable pub declared : Worlds → List Scope → Inside → Declarations → Option Inside
declared worlds outer i End = Some i
declared worlds outer i (CoreThen ds rest) =
    module_tree ds >>= λ t. declared worlds outer (record i { here = with_core t i.here }) rest
declared worlds outer i (TypeThen t rest) =
    defined worlds (i.here ∷ outer) t >>= λ t. declared worlds outer (adds_inside sort.Ty (Known t) i) rest
declared worlds outer i (ComponentTypeThen ds rest) = declared worlds (i.here ∷ outer) nothing_inside ds >>= component_tree
    >>= λ t. declared worlds outer (adds_inside sort.Ty (Known t) i) rest
declared worlds outer i (InstanceTypeThen ds rest) = declared worlds (i.here ∷ outer) nothing_inside ds >>= instance_tree
    >>= λ t. declared worlds outer (adds_inside sort.Ty (Known t) i) rest
declared worlds outer i (AliasThen a rest) =
    alias_of worlds (i.here ∷ outer) a >>= λ m. declared worlds outer (adds_inside (alias_sort a) m i) rest
declared worlds outer i (ImportThen n d rest) =
    described worlds (i.here ∷ outer) n d >>= λ d. declared worlds outer (imports_inside n d i) rest
declared worlds outer i (ExportThen n d rest) =
    described worlds (i.here ∷ outer) n d >>= λ d. declared worlds outer (exports_inside n d i) rest

-- the type that a type entry states
abbrev pub type_of : Worlds → Scope → TypeEntry → Option Tree
type_of worlds here (PlainType t) = defined worlds (here ∷ []) t
type_of worlds here (ComponentType ds) = declared worlds (here ∷ []) nothing_inside ds >>= component_tree
type_of worlds here (InstanceType ds) = declared worlds (here ∷ []) nothing_inside ds >>= instance_tree
