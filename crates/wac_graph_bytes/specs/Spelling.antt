-- The bytes of each entry (Component Model, binary format), in the order of that document.
use Rattle.std.specs.Prelude.{ℕ, ◌+◌, ◌*◌, Bool, true, false, List, [], ◌∷◌, ◌++◌, length, Option, Some, None}
use Rattle.std.specs.List.{flat_map}
use Rattle.wac_graph_bytes.specs.declared.value.Sort.{Sort}
use Rattle.wac_graph_bytes.specs.declared.value.Sort.TheVariants as sort
use Rattle.wac_types_base.specs.declared.item.PrimitiveType.{PrimitiveType}
use Rattle.wac_types_base.specs.declared.item.PrimitiveType.TheVariants as prim
use Rattle.wac_graph_bytes.specs.declared.value.ValueType.{ValueType}
use Rattle.wac_graph_bytes.specs.declared.value.ValueType.TheVariants.{Primitive, Index}
use Rattle.wac_graph_bytes.specs.declared.value.Description.{Description}
use Rattle.wac_graph_bytes.specs.declared.value.Description.TheVariants as desc
use Rattle.wac_graph_bytes.specs.declared.module.CoreReference.{CoreReference}
use Rattle.wac_graph_bytes.specs.declared.module.CoreReference.TheVariants as reference
use Rattle.wac_graph_bytes.specs.declared.module.CoreValue.{CoreValue}
use Rattle.wac_graph_bytes.specs.declared.module.CoreValue.TheVariants.{I32, I64, F32, F64, V128, Reference}
use Rattle.wac_graph_bytes.specs.declared.module.Limits.{Limits}
use Rattle.wac_graph_bytes.specs.declared.module.CoreDescription.{CoreDescription}
use Rattle.wac_graph_bytes.specs.declared.module.CoreDescription.TheVariants as core
use Rattle.wac_graph_bytes.specs.Leb.{unsigned, signed}
use Rattle.wac_graph_bytes.specs.Entries.{DefinedType, PrimitiveEntry, RecordEntry, VariantEntry, ListEntry, OptionEntry, FixedListEntry, TupleEntry, FlagsEntry, EnumEntry, ResultEntry, OwnEntry, BorrowEntry, StreamEntry, FutureEntry, FuncEntry, Alias, ExportAlias, OuterAlias, CoreDeclaration, CoreImport, CoreSignature, CoreExport, Declarations, End, CoreThen, TypeThen, ComponentTypeThen, InstanceTypeThen, AliasThen, ImportThen, ExportThen, TypeEntry, PlainType, ComponentType, InstanceType, ExportEntry, Argument, Section, Custom, CoreTypes, NestedComponent, Instances, Aliases, Types, Imports, Exports}

-- a count, and that many of them
abbrev pub vec : {X : Type 0} → (X → List ℕ) → List X → List ℕ
vec f xs = unsigned (length xs) ++ flat_map f xs

abbrev pub name : List ℕ → List ℕ
name text = unsigned (length text) ++ text

-- the name of an import or an export
abbrev pub extern_name : List ℕ → List ℕ
extern_name text = 0 ∷ name text

abbrev pub sort_bytes : Sort → List ℕ
sort_bytes sort.Func = 0x01 ∷ []
sort_bytes sort.Ty = 0x03 ∷ []
sort_bytes sort.Component = 0x04 ∷ []
sort_bytes sort.Instance = 0x05 ∷ []
sort_bytes sort.Module = 0x00 ∷ 0x11 ∷ []

abbrev pub primitive_byte : PrimitiveType → ℕ
primitive_byte prim.Bool = 0x7f
primitive_byte prim.S8 = 0x7e
primitive_byte prim.U8 = 0x7d
primitive_byte prim.S16 = 0x7c
primitive_byte prim.U16 = 0x7b
primitive_byte prim.S32 = 0x7a
primitive_byte prim.U32 = 0x79
primitive_byte prim.S64 = 0x78
primitive_byte prim.U64 = 0x77
primitive_byte prim.F32 = 0x76
primitive_byte prim.F64 = 0x75
primitive_byte prim.Char = 0x74
primitive_byte prim.String = 0x73
primitive_byte prim.ErrorContext = 0x64

abbrev pub value_type : ValueType → List ℕ
value_type (Primitive p) = primitive_byte p ∷ []
value_type (Index n) = signed n

abbrev pub optional : Option ValueType → List ℕ
optional None = 0x00 ∷ []
optional (Some t) = 0x01 ∷ value_type t

abbrev pub field : List ℕ × ValueType → List ℕ
field f = name f.0 ++ value_type f.1

abbrev pub case_bytes : List ℕ × Option ValueType → List ℕ
case_bytes c = name c.0 ++ (optional c.1 ++ 0x00 ∷ [])

-- what a function answers: a type, or nothing
abbrev pub answer : Option ValueType → List ℕ
answer None = 0x01 ∷ 0x00 ∷ []
answer (Some t) = 0x00 ∷ value_type t

abbrev pub func_byte : Bool → ℕ
func_byte false = 0x40
func_byte true = 0x43

abbrev pub defined_type : DefinedType → List ℕ
defined_type (PrimitiveEntry p) = primitive_byte p ∷ []
defined_type (RecordEntry fields) = 0x72 ∷ vec field fields
defined_type (VariantEntry cases) = 0x71 ∷ vec case_bytes cases
defined_type (ListEntry t) = 0x70 ∷ value_type t
defined_type (OptionEntry t) = 0x6b ∷ value_type t
defined_type (FixedListEntry t n) = 0x67 ∷ (value_type t ++ unsigned n)
defined_type (TupleEntry ts) = 0x6f ∷ vec value_type ts
defined_type (FlagsEntry names) = 0x6e ∷ vec name names
defined_type (EnumEntry names) = 0x6d ∷ vec name names
defined_type (ResultEntry ok err) = 0x6a ∷ (optional ok ++ optional err)
defined_type (OwnEntry i) = 0x69 ∷ unsigned i
defined_type (BorrowEntry i) = 0x68 ∷ unsigned i
defined_type (StreamEntry t) = 0x66 ∷ optional t
defined_type (FutureEntry t) = 0x65 ∷ optional t
defined_type (FuncEntry is_async params result) = func_byte is_async ∷ (vec field params ++ answer result)

abbrev pub description : Description → List ℕ
description (desc.Module i) = 0x00 ∷ 0x11 ∷ unsigned i
description (desc.Func i) = 0x01 ∷ unsigned i
description (desc.Equal i) = 0x03 ∷ 0x00 ∷ unsigned i
description desc.Resource = 0x03 ∷ 0x01 ∷ []
description (desc.Component i) = 0x04 ∷ unsigned i
description (desc.Instance i) = 0x05 ∷ unsigned i

abbrev pub alias_bytes : Alias → List ℕ
alias_bytes (ExportAlias s i n) = sort_bytes s ++ 0x00 ∷ (unsigned i ++ name n)
alias_bytes (OuterAlias s count i) = sort_bytes s ++ 0x02 ∷ (unsigned count ++ unsigned i)

-- core types: `reftype`, `valtype`
abbrev pub core_reference : CoreReference → ℕ
core_reference reference.Func = 0x70
core_reference reference.Extern = 0x6f

abbrev pub core_value : CoreValue → List ℕ
core_value I32 = 0x7f ∷ []
core_value I64 = 0x7e ∷ []
core_value F32 = 0x7d ∷ []
core_value F64 = 0x7c ∷ []
core_value V128 = 0x7b ∷ []
core_value (Reference r) = core_reference r ∷ []

abbrev pub bit : Bool → ℕ
bit false = 0
bit true = 1

abbrev pub limits_by : Option ℕ → ℕ → ℕ → List ℕ
limits_by None flags minimum = flags ∷ unsigned minimum
limits_by (Some n) flags minimum = (flags + 1) ∷ (unsigned minimum ++ unsigned n)

-- A byte of flags: 1 where there is a maximum, 2 where it is shared, 4 where addresses have 64 bits. Then the bounds.
abbrev pub limits : Bool → Limits → List ℕ
limits shared l = limits_by l.maximum (2 * bit shared + 4 * bit l.wide) l.minimum

abbrev pub core_description : CoreDescription → List ℕ
core_description (core.Func i) = 0x00 ∷ unsigned i
core_description (core.Table r l) = 0x01 ∷ core_reference r ∷ limits false l
core_description (core.Memory l shared) = 0x02 ∷ limits shared l
core_description (core.Global t mutable) = 0x03 ∷ (core_value t ++ bit mutable ∷ [])
core_description (core.Tag i) = 0x04 ∷ 0x00 ∷ unsigned i

abbrev pub core_declaration : CoreDeclaration → List ℕ
core_declaration (CoreImport from n d) = 0x00 ∷ (name from ++ (name n ++ core_description d))
core_declaration (CoreSignature params results) = 0x01 ∷ 0x60 ∷ (vec core_value params ++ vec core_value results)
core_declaration (CoreExport n d) = 0x03 ∷ (name n ++ core_description d)

abbrev pub core_type : List CoreDeclaration → List ℕ
core_type ds = 0x50 ∷ vec core_declaration ds

abbrev pub declaration_count : Declarations → ℕ
declaration_count End = 0
declaration_count (CoreThen t rest) = declaration_count rest + 1
declaration_count (TypeThen t rest) = declaration_count rest + 1
declaration_count (ComponentTypeThen ds rest) = declaration_count rest + 1
declaration_count (InstanceTypeThen ds rest) = declaration_count rest + 1
declaration_count (AliasThen a rest) = declaration_count rest + 1
declaration_count (ImportThen n d rest) = declaration_count rest + 1
declaration_count (ExportThen n d rest) = declaration_count rest + 1

abbrev pub declaration_bytes : Declarations → List ℕ
declaration_bytes End = []
declaration_bytes (CoreThen t rest) = 0x00 ∷ (core_type t ++ declaration_bytes rest)
declaration_bytes (TypeThen t rest) = 0x01 ∷ (defined_type t ++ declaration_bytes rest)
declaration_bytes (ComponentTypeThen ds rest) =
    0x01 ∷ 0x41 ∷ (unsigned (declaration_count ds) ++ (declaration_bytes ds ++ declaration_bytes rest))
declaration_bytes (InstanceTypeThen ds rest) =
    0x01 ∷ 0x42 ∷ (unsigned (declaration_count ds) ++ (declaration_bytes ds ++ declaration_bytes rest))
declaration_bytes (AliasThen a rest) = 0x02 ∷ (alias_bytes a ++ declaration_bytes rest)
declaration_bytes (ImportThen n d rest) = 0x03 ∷ (extern_name n ++ (description d ++ declaration_bytes rest))
declaration_bytes (ExportThen n d rest) = 0x04 ∷ (extern_name n ++ (description d ++ declaration_bytes rest))

abbrev pub type_entry : TypeEntry → List ℕ
type_entry (PlainType t) = defined_type t
type_entry (ComponentType ds) = 0x41 ∷ (unsigned (declaration_count ds) ++ declaration_bytes ds)
type_entry (InstanceType ds) = 0x42 ∷ (unsigned (declaration_count ds) ++ declaration_bytes ds)

abbrev pub argument : Argument → List ℕ
argument a = name a.0 ++ (sort_bytes a.1 ++ unsigned a.2)

abbrev pub instance_entry : ℕ × List Argument → List ℕ
instance_entry e = 0x00 ∷ (unsigned e.0 ++ vec argument e.1)

abbrev pub import_entry : List ℕ × Description → List ℕ
import_entry e = extern_name e.0 ++ description e.1

abbrev pub stated_bytes : Option Description → List ℕ
stated_bytes None = 0x00 ∷ []
stated_bytes (Some d) = 0x01 ∷ description d

abbrev pub export_entry : ExportEntry → List ℕ
export_entry e = extern_name e.name ++ (sort_bytes e.sort ++ (unsigned e.index ++ stated_bytes e.stated))

abbrev pub section_id : Section → ℕ
section_id (Custom n rest) = 0
section_id (CoreTypes ts) = 3
section_id (NestedComponent bytes) = 4
section_id (Instances es) = 5
section_id (Aliases es) = 6
section_id (Types es) = 7
section_id (Imports es) = 10
section_id (Exports es) = 11

abbrev pub contents : Section → List ℕ
contents (Custom n rest) = name n ++ rest
contents (CoreTypes ts) = vec core_type ts
contents (NestedComponent bytes) = bytes
contents (Instances es) = vec instance_entry es
contents (Aliases es) = vec alias_bytes es
contents (Types es) = vec type_entry es
contents (Imports es) = vec import_entry es
contents (Exports es) = vec export_entry es

-- a number, how many bytes follow, and these bytes
abbrev pub framed : ℕ → List ℕ → List ℕ
framed id inside = id ∷ (unsigned (length inside) ++ inside)

unfoldable pub section_bytes : Section → List ℕ
section_bytes s = framed (section_id s) (contents s)

abbrev pub preamble : List ℕ
preamble = 0x00 ∷ 0x61 ∷ 0x73 ∷ 0x6d ∷ 0x0d ∷ 0x00 ∷ 0x01 ∷ 0x00 ∷ []

unfoldable pub component_bytes : List Section → List ℕ
component_bytes ss = preamble ++ flat_map section_bytes ss
