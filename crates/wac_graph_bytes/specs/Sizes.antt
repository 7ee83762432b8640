-- Which entries can be written: each count, index, length and size in them is a number of 32 bits, and each name is UTF-8.
use Rattle.std.specs.Prelude.{ℕ, ◌^◌, Bool, true, List, length, nat_lt, ◌&&◌, ◌||◌, Option, Some, None}
use Rattle.std.specs.List.{list_all}
use Rattle.std.specs.Str.{is_utf8}
use Rattle.wac_graph_bytes.specs.declared.value.ValueType.{ValueType}
use Rattle.wac_graph_bytes.specs.declared.value.ValueType.TheVariants.{Primitive, Index}
use Rattle.wac_graph_bytes.specs.declared.value.Description.{Description}
use Rattle.wac_graph_bytes.specs.declared.value.Description.TheVariants as desc
use Rattle.wac_graph_bytes.specs.declared.module.Limits.{Limits}
use Rattle.wac_graph_bytes.specs.declared.module.CoreDescription.{CoreDescription}
use Rattle.wac_graph_bytes.specs.declared.module.CoreDescription.TheVariants as core
use Rattle.wac_types_base.specs.Entries.{Name}
use Rattle.wac_graph_bytes.specs.Entries.{DefinedType, PrimitiveEntry, RecordEntry, VariantEntry, ListEntry, OptionEntry, FixedListEntry, TupleEntry, FlagsEntry, EnumEntry, ResultEntry, OwnEntry, BorrowEntry, StreamEntry, FutureEntry, FuncEntry, Alias, ExportAlias, OuterAlias, CoreDeclaration, CoreImport, CoreSignature, CoreExport, Declarations, End, CoreThen, TypeThen, ComponentTypeThen, InstanceTypeThen, AliasThen, ImportThen, ExportThen, TypeEntry, PlainType, ComponentType, InstanceType, ExportEntry, Argument, Section, Custom, CoreTypes, NestedComponent, Instances, Aliases, Types, Imports, Exports}
use Rattle.wac_graph_bytes.specs.Spelling.{contents, declaration_count}

-- a number of 32 bits
abbrev pub small : ℕ → Bool
small n = nat_lt n (2 ^ 32)

abbrev pub name_fits : Name → Bool
name_fits n = small (length n) && is_utf8 n

-- a count, and things that fit
abbrev pub vec_fits : {X : Type 0} → (X → Bool) → List X → Bool
vec_fits p xs = small (length xs) && list_all p xs

abbrev pub any_fits : {X : Type 0} → X → Bool
any_fits x = true

-- an index, where there is one
abbrev pub value_fits : ValueType → Bool
value_fits (Primitive p) = true
value_fits (Index i) = small i

abbrev pub optional_fits : Option ValueType → Bool
optional_fits None = true
optional_fits (Some t) = value_fits t

abbrev pub description_fits : Description → Bool
description_fits (desc.Module i) = small i
description_fits (desc.Func i) = small i
description_fits (desc.Equal i) = small i
description_fits desc.Resource = true
description_fits (desc.Component i) = small i
description_fits (desc.Instance i) = small i

abbrev pub stated_fits : Option Description → Bool
stated_fits None = true
stated_fits (Some d) = description_fits d

-- a name, and what goes under it
abbrev pub field_fits : Name × ValueType → Bool
field_fits x = name_fits x.0 && value_fits x.1

abbrev pub case_fits : Name × Option ValueType → Bool
case_fits x = name_fits x.0 && optional_fits x.1

abbrev pub import_fits : Name × Description → Bool
import_fits x = name_fits x.0 && description_fits x.1

abbrev pub defined_fits : DefinedType → Bool
defined_fits (PrimitiveEntry p) = true
defined_fits (RecordEntry fs) = vec_fits field_fits fs
defined_fits (VariantEntry cs) = vec_fits case_fits cs
defined_fits (ListEntry t) = value_fits t
defined_fits (OptionEntry t) = value_fits t
defined_fits (FixedListEntry t n) = value_fits t && small n
defined_fits (TupleEntry ts) = vec_fits value_fits ts
defined_fits (FlagsEntry ns) = vec_fits name_fits ns
defined_fits (EnumEntry ns) = vec_fits name_fits ns
defined_fits (ResultEntry ok err) = optional_fits ok && optional_fits err
defined_fits (OwnEntry i) = small i
defined_fits (BorrowEntry i) = small i
defined_fits (StreamEntry t) = optional_fits t
defined_fits (FutureEntry t) = optional_fits t
defined_fits (FuncEntry a params answer) = vec_fits field_fits params && optional_fits answer

abbrev pub alias_fits : Alias → Bool
alias_fits (ExportAlias s i n) = small i && name_fits n
alias_fits (OuterAlias s count i) = small count && small i

-- a bound of a table or a memory; with addresses of 64 bits it has 64 bits itself
abbrev pub bound_fits : Bool → ℕ → Bool
bound_fits wide n = wide && nat_lt n (2 ^ 64) || small n

abbrev pub maximum_fits : Bool → Option ℕ → Bool
maximum_fits wide None = true
maximum_fits wide (Some n) = bound_fits wide n

abbrev pub limits_fit : Limits → Bool
limits_fit l = bound_fits l.wide l.minimum && maximum_fits l.wide l.maximum

abbrev pub core_description_fits : CoreDescription → Bool
core_description_fits (core.Func i) = small i
core_description_fits (core.Table r l) = limits_fit l
core_description_fits (core.Memory l shared) = limits_fit l
core_description_fits (core.Global t mutable) = true
core_description_fits (core.Tag i) = small i

abbrev pub core_declaration_fits : CoreDeclaration → Bool
core_declaration_fits (CoreImport from n d) = name_fits from && name_fits n && core_description_fits d
core_declaration_fits (CoreSignature params results) = vec_fits any_fits params && vec_fits any_fits results
core_declaration_fits (CoreExport n d) = name_fits n && core_description_fits d

abbrev pub core_type_fits : List CoreDeclaration → Bool
core_type_fits ds = vec_fits core_declaration_fits ds

-- what each of the declarations holds
abbrev pub declarations_fit : Declarations → Bool
declarations_fit End = true
declarations_fit (CoreThen ds rest) = core_type_fits ds && declarations_fit rest
declarations_fit (TypeThen t rest) = defined_fits t && declarations_fit rest
declarations_fit (ComponentTypeThen ds rest) = (small (declaration_count ds) && declarations_fit ds) && declarations_fit rest
declarations_fit (InstanceTypeThen ds rest) = (small (declaration_count ds) && declarations_fit ds) && declarations_fit rest
declarations_fit (AliasThen a rest) = alias_fits a && declarations_fit rest
declarations_fit (ImportThen n d rest) = import_fits (n, d) && declarations_fit rest
declarations_fit (ExportThen n d rest) = import_fits (n, d) && declarations_fit rest

abbrev pub type_fits : TypeEntry → Bool
type_fits (PlainType t) = defined_fits t
type_fits (ComponentType ds) = small (declaration_count ds) && declarations_fit ds
type_fits (InstanceType ds) = small (declaration_count ds) && declarations_fit ds

abbrev pub argument_fits : Argument → Bool
argument_fits a = name_fits a.0 && small a.2

abbrev pub instance_fits : ℕ × List Argument → Bool
instance_fits e = small e.0 && vec_fits argument_fits e.1

abbrev pub export_fits : ExportEntry → Bool
export_fits e = name_fits e.name && (small e.index && stated_fits e.stated)

-- what a section holds
abbrev pub inside_fits : Section → Bool
inside_fits (Custom n rest) = name_fits n
inside_fits (CoreTypes ts) = vec_fits core_type_fits ts
inside_fits (NestedComponent bytes) = true
inside_fits (Instances es) = vec_fits instance_fits es
inside_fits (Aliases es) = vec_fits alias_fits es
inside_fits (Types es) = vec_fits type_fits es
inside_fits (Imports es) = vec_fits import_fits es
inside_fits (Exports es) = vec_fits export_fits es

-- what it holds, and its size
abbrev pub section_fits : Section → Bool
section_fits s = inside_fits s && small (length (contents s))
