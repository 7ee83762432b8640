-- What the entries of the code are, without where they lie in memory.
use Rattle.std.specs.Prelude.{ℕ, List, [], ◌∷◌, map, Option, string_bytes}
use Rattle.wac_types_base.specs.Entries.{Name, texts_of}
use Rattle.wac_graph_bytes.specs.declared.value.Sort.{Sort}
use Rattle.wac_graph_bytes.specs.declared.value.ValueType.{ValueType}
use Rattle.wac_graph_bytes.specs.declared.entry.Param.{Param}
use Rattle.wac_graph_bytes.specs.declared.entry.Case.{Case}
use Rattle.wac_graph_bytes.specs.declared.entry.NamedIndex.{NamedIndex}
use Rattle.wac_graph_bytes.specs.declared.entry.Export.{Export as CodeExport}
use Rattle.wac_graph_bytes.specs.declared.entry.Alias.{Alias as CodeAlias}
use Rattle.wac_graph_bytes.specs.declared.entry.Alias.TheVariants as alias
use Rattle.wac_graph_bytes.specs.declared.entry.DefinedType.{DefinedType as CodeType}
use Rattle.wac_graph_bytes.specs.declared.entry.DefinedType.TheVariants as code
use Rattle.wac_graph_bytes.specs.declared.entry.Declaration.{Declaration, Module, Defined, ComponentType', InstanceType', Alias, Import, Export, Row_of-Declaration, end_of-Declaration, more_of-Declaration}
use Rattle.wac_graph_bytes.specs.declared.entry.Entry.{Entry as CodeEntry}
use Rattle.wac_graph_bytes.specs.declared.entry.Entry.TheVariants as entry
use Rattle.wac_graph_bytes.specs.declared.entry.Processor.{Processor}
use Rattle.wac_graph_bytes.specs.declared.entry.IndexName.{IndexName}
use Rattle.wac_graph_bytes.specs.declared.entry.SortNames.{SortNames}
use Rattle.wac_graph_bytes.specs.declared.module.CoreDeclaration.{CoreDeclaration as CodeCore}
use Rattle.wac_graph_bytes.specs.declared.module.CoreDeclaration.TheVariants as core
use Rattle.wac_graph_bytes.specs.Entries.{DefinedType, PrimitiveEntry, RecordEntry, VariantEntry, ListEntry, OptionEntry, FixedListEntry, TupleEntry, FlagsEntry, EnumEntry, ResultEntry, OwnEntry, BorrowEntry, StreamEntry, FutureEntry, FuncEntry, ExportAlias, OuterAlias, CoreDeclaration, CoreImport, CoreSignature, CoreExport, Declarations, End, CoreThen, TypeThen, ComponentTypeThen, InstanceTypeThen, AliasThen, ImportThen, ExportThen, PlainType, ComponentType, InstanceType, ExportEntry, Argument, Entry, Core, Nested, Instantiate, Aliased, Typed, Imported, Exported}
use Rattle.wac_graph_bytes.specs.Entries as plain

abbrev pub param_view : Param → Name × ValueType
param_view p = (string_bytes p.name, p.ty)

abbrev pub params_view : List Param → List (Name × ValueType)
params_view ps = map param_view ps

abbrev pub case_view : Case → Name × Option ValueType
case_view c = (string_bytes c.name, c.ty)

abbrev pub cases_view : List Case → List (Name × Option ValueType)
cases_view cs = map case_view cs

abbrev pub argument_view : NamedIndex → Argument
argument_view a = (string_bytes a.name, a.sort, a.index)

abbrev pub arguments_view : List NamedIndex → List Argument
arguments_view xs = map argument_view xs

abbrev pub defined_view : CodeType → DefinedType
defined_view (code.Primitive p) = PrimitiveEntry p
defined_view (code.Record fs) = RecordEntry (params_view fs.items)
defined_view (code.Variant cs) = VariantEntry (cases_view cs.items)
defined_view (code.List t) = ListEntry t
defined_view (code.Option t) = OptionEntry t
defined_view (code.FixedSizeList t n) = FixedListEntry t n
defined_view (code.Tuple ts) = TupleEntry ts.items
defined_view (code.Flags ns) = FlagsEntry (texts_of ns.items)
defined_view (code.Enum ns) = EnumEntry (texts_of ns.items)
defined_view (code.Result ok err) = ResultEntry ok err
defined_view (code.Own i) = OwnEntry i
defined_view (code.Borrow i) = BorrowEntry i
defined_view (code.Stream t) = StreamEntry t
defined_view (code.Future t) = FutureEntry t
defined_view (code.Func a ps r) = FuncEntry a (params_view ps.items) r

abbrev pub alias_view : CodeAlias → plain.Alias
alias_view (alias.Export s i n) = ExportAlias s i (string_bytes n)
alias_view (alias.Outer s count i) = OuterAlias s count i

abbrev pub core_view : CodeCore → CoreDeclaration
core_view (core.Import from n d) = CoreImport (string_bytes from) (string_bytes n) d
core_view (core.Signature params results) = CoreSignature params.items results.items
core_view (core.Export n d) = CoreExport (string_bytes n) d

abbrev pub module_view : List CodeCore → List CoreDeclaration
module_view ds = map core_view ds

abbrev mutual
  -- a declaration before others
  pub before : Declaration → Declarations → Declarations
  before (Module ds) rest = CoreThen (module_view ds.items) rest
  before (Defined t) rest = TypeThen (defined_view t) rest
  before (ComponentType' shape row) rest = ComponentTypeThen (row_view row) rest
  before (InstanceType' shape row) rest = InstanceTypeThen (row_view row) rest
  before (Alias a) rest = AliasThen (alias_view a) rest
  before (Import n d) rest = ImportThen (string_bytes n) d rest
  before (Export n d) rest = ExportThen (string_bytes n) d rest

  pub row_view : {m : _} → Row_of-Declaration m → Declarations
  row_view end_of-Declaration = End
  row_view (more_of-Declaration d rest) = before d (row_view rest)

-- the declarations of a list, in order
abbrev pub declarations_of : List Declaration → Declarations
declarations_of [] = End
declarations_of (d ∷ ds) = before d (declarations_of ds)

abbrev pub export_view : CodeExport → ExportEntry
export_view e = record { name = string_bytes e.name; sort = e.sort; index = e.index; stated = e.stated }

abbrev pub view : CodeEntry → Entry
view (entry.Module ds) = Core (module_view ds.items)
view (entry.Nested bytes) = Nested bytes.items
view (entry.Instantiate c as') = Instantiate c (arguments_view as'.items)
view (entry.Alias a) = Aliased (alias_view a)
view (entry.Defined t) = Typed (PlainType (defined_view t))
view (entry.ComponentType ds) = Typed (ComponentType (declarations_of ds.items))
view (entry.InstanceType ds) = Typed (InstanceType (declarations_of ds.items))
view (entry.Import n d) = Imported (string_bytes n) d
view (entry.Export e) = Exported (export_view e)

abbrev pub processor_view : Processor → Name × Name
processor_view p = (string_bytes p.name, string_bytes p.version)

abbrev pub index_name_view : IndexName → ℕ × Name
index_name_view x = (x.index, string_bytes x.name)

abbrev pub sort_names_view : SortNames → Sort × List (ℕ × Name)
sort_names_view x = (x.sort, map index_name_view x.names.items)

abbrev pub all_names_view : List SortNames → List (Sort × List (ℕ × Name))
all_names_view xs = map sort_names_view xs
