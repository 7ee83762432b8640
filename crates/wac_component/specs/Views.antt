-- What the sections of the code are, without where they lie in memory.
use Rattle.std.specs.Prelude.{ℕ, List, map, string_bytes}
use Rattle.wac_types_base.specs.Entries.{Name}
use Rattle.wac_graph_bytes.specs.Entries.{CoreDeclaration}
use Rattle.wac_graph_bytes.specs.Views.{defined_view, alias_view as plain_alias_view, module_view, row_view, declarations_of}
use Rattle.wac_graph_bytes.specs.declared.entry.Declaration.{Declaration as CodeDeclaration, Module, Defined as Defined', ComponentType', InstanceType', Alias as Alias', Import as Import', Export as Export'}
use Rattle.wac_graph_bytes.specs.declared.value.Description.{Description}
use Rattle.wac_component.specs.declared.entry.Alias.{Alias as CodeAlias}
use Rattle.wac_component.specs.declared.entry.Alias.TheVariants as code_alias
use Rattle.wac_component.specs.declared.entry.TypeEntry.{TypeEntry as CodeType}
use Rattle.wac_component.specs.declared.entry.TypeEntry.TheVariants as code_type
use Rattle.wac_component.specs.declared.entry.CoreType.{CoreType}
use Rattle.wac_component.specs.declared.entry.CoreArgument.{CoreArgument}
use Rattle.wac_component.specs.declared.entry.CoreItem.{CoreItem}
use Rattle.wac_component.specs.declared.entry.CoreInstance.{CoreInstance as CodeCoreInstance}
use Rattle.wac_component.specs.declared.entry.CoreInstance.TheVariants as code_core
use Rattle.wac_component.specs.declared.entry.Item.{Item}
use Rattle.wac_component.specs.declared.entry.Instance.{Instance as CodeInstance}
use Rattle.wac_component.specs.declared.entry.Instance.TheVariants as code_instance
use Rattle.wac_component.specs.declared.entry.Canonical.{Canonical as CodeCanonical}
use Rattle.wac_component.specs.declared.entry.Canonical.TheVariants as code_canonical
use Rattle.wac_component.specs.declared.entry.Import.{Import}
use Rattle.wac_component.specs.declared.entry.Export.{Export}
use Rattle.wac_component.specs.declared.entry.Section.{Section as CodeSection}
use Rattle.wac_component.specs.declared.entry.Section.TheVariants as code
use Rattle.wac_component.specs.declared.entry.CoreSort.{CoreSort}
use Rattle.wac_component.specs.declared.entry.Sort.{Sort}
use Rattle.wac_component.specs.Entries.{CoreInstance, CoreInstantiate, CoreBundle, Instance, Instantiate, Bundle, Canonical, Lift, Lower, BuiltIn, ExportEntry, Section, Custom, CoreModule, CoreInstances, CoreTypes, Nested, Instances, Aliases, Types, Canonicals, Start, Imports, Exports}
use Rattle.wac_component.specs.Entries.{Declaration, Defined, ComponentType, InstanceType, Aliased, Imported, Exported, Alias, ExportAlias, CoreAlias, OuterAlias, TypeEntry, DefinedEntry, ResourceEntry, ComponentEntry, InstanceEntry, CoreModuleType}

abbrev pub alias_view : CodeAlias → Alias
alias_view (code_alias.Export s i n) = ExportAlias s i (string_bytes n)
alias_view (code_alias.Core s i n) = CoreAlias s i (string_bytes n)
alias_view (code_alias.Outer s count i) = OuterAlias s count i

abbrev pub declaration_view : CodeDeclaration → Declaration
declaration_view (Module ds) = CoreModuleType (module_view ds.items)
declaration_view (Defined' t) = Defined (defined_view t)
declaration_view (ComponentType' shape row) = ComponentType (row_view row)
declaration_view (InstanceType' shape row) = InstanceType (row_view row)
declaration_view (Alias' a) = Aliased (plain_alias_view a)
declaration_view (Import' n d) = Imported (string_bytes n) d
declaration_view (Export' n d) = Exported (string_bytes n) d

abbrev pub type_view : CodeType → TypeEntry
type_view (code_type.Defined t) = DefinedEntry (defined_view t)
type_view (code_type.Resource destructor) = ResourceEntry destructor
type_view (code_type.Component ds) = ComponentEntry (declarations_of ds.items)
type_view (code_type.Instance ds) = InstanceEntry (declarations_of ds.items)

abbrev pub core_type_view : CoreType → List CoreDeclaration
core_type_view t = module_view t.declarations.items

abbrev pub core_argument_view : CoreArgument → Name × ℕ
core_argument_view a = (string_bytes a.name, a.instance)

abbrev pub core_item_view : CoreItem → Name × CoreSort × ℕ
core_item_view i = (string_bytes i.name, i.sort, i.index)

abbrev pub core_instance_view : CodeCoreInstance → CoreInstance
core_instance_view (code_core.Instantiate m args) = CoreInstantiate m (map core_argument_view args.items)
core_instance_view (code_core.Bundle is) = CoreBundle (map core_item_view is.items)

abbrev pub item_view : Item → Name × Sort × ℕ
item_view i = (string_bytes i.name, i.sort, i.index)

abbrev pub instance_view : CodeInstance → Instance
instance_view (code_instance.Instantiate c args) = Instantiate c (map item_view args.items)
instance_view (code_instance.Bundle is) = Bundle (map item_view is.items)

abbrev pub canonical_view : CodeCanonical → Canonical
canonical_view (code_canonical.Lift f options t) = Lift f options.items t
canonical_view (code_canonical.Lower f options) = Lower f options.items
canonical_view (code_canonical.BuiltIn b) = BuiltIn b

abbrev pub import_view : Import → Name × Description
import_view i = (string_bytes i.name, i.description)

abbrev pub export_view : Export → ExportEntry
export_view e = record { name = string_bytes e.name; sort = e.sort; index = e.index; stated = e.stated }

abbrev pub section_view : CodeSection → Section
section_view (code.Custom n rest) = Custom (string_bytes n) rest.now
section_view (code.CoreModule bytes) = CoreModule bytes.now
section_view (code.CoreInstances xs) = CoreInstances (map core_instance_view xs.items)
section_view (code.CoreTypes xs) = CoreTypes (map core_type_view xs.items)
section_view (code.Nested bytes) = Nested bytes.now
section_view (code.Instances xs) = Instances (map instance_view xs.items)
section_view (code.Aliases xs) = Aliases (map alias_view xs.items)
section_view (code.Types xs) = Types (map type_view xs.items)
section_view (code.Canonicals xs) = Canonicals (map canonical_view xs.items)
section_view (code.Start f args n) = Start f args.items n
section_view (code.Imports xs) = Imports (map import_view xs.items)
section_view (code.Exports xs) = Exports (map export_view xs.items)
