-- What stands in the sections of a component, in order, as the binary format of the component model has it. A name is its
-- bytes, an index a number; types, descriptions and declarations are those of `wac_graph_bytes`.
use Rattle.std.specs.Prelude.{ℕ, List, [], ◌∷◌, Option}
use Rattle.wac_types_base.specs.Entries.{Name}
use Rattle.wac_graph_bytes.specs.Entries as plain
use Rattle.wac_graph_bytes.specs.Entries.{DefinedType, CoreDeclaration, Declarations, End, CoreThen, TypeThen, ComponentTypeThen, InstanceTypeThen, AliasThen, ImportThen, ExportThen}
use Rattle.wac_graph_bytes.specs.declared.value.Description.{Description}
use Rattle.wac_component.specs.declared.entry.CoreSort.{CoreSort}
use Rattle.wac_component.specs.declared.entry.Sort.{Sort}
use Rattle.wac_component.specs.declared.entry.CanonicalOption.{CanonicalOption}

-- one declaration of a component type or an instance type
pub data Declaration : Type 0 where
  CoreModuleType : List CoreDeclaration → Declaration
  Defined : DefinedType → Declaration
  ComponentType : Declarations → Declaration
  InstanceType : Declarations → Declaration
  Aliased : plain.Alias → Declaration
  Imported : Name → Description → Declaration
  Exported : Name → Description → Declaration

-- a declaration, and those behind it
abbrev pub before : Declaration → Declarations → Declarations
before (CoreModuleType t) rest = CoreThen t rest
before (Defined t) rest = TypeThen t rest
before (ComponentType ds) rest = ComponentTypeThen ds rest
before (InstanceType ds) rest = InstanceTypeThen ds rest
before (Aliased a) rest = AliasThen a rest
before (Imported n d) rest = ImportThen n d rest
before (Exported n d) rest = ExportThen n d rest

abbrev pub chain : List Declaration → Declarations
chain [] = End
chain (d ∷ ds) = before d (chain ds)

-- an export of an instance or of a core instance, or an index of the scope that many scopes further out
pub data Alias : Type 0 where
  ExportAlias : Sort → (instance_index : ℕ) → Name → Alias
  CoreAlias : Sort → (core_instance_index : ℕ) → Name → Alias
  OuterAlias : Sort → (count : ℕ) → (index : ℕ) → Alias

-- a type; a resource may have a destructor, the index of a core function
pub data TypeEntry : Type 0 where
  DefinedEntry : DefinedType → TypeEntry
  ResourceEntry : (destructor : Option ℕ) → TypeEntry
  ComponentEntry : Declarations → TypeEntry
  InstanceEntry : Declarations → TypeEntry

-- a module with core instances under the names of its imports, or core items under names
pub data CoreInstance : Type 0 where
  CoreInstantiate : (core_module : ℕ) → List (Name × ℕ) → CoreInstance
  CoreBundle : List (Name × CoreSort × ℕ) → CoreInstance

-- a component with items under the names of its imports, or items under names
pub data Instance : Type 0 where
  Instantiate : (component : ℕ) → List (Name × Sort × ℕ) → Instance
  Bundle : List (Name × Sort × ℕ) → Instance

-- a function of a core function, a core function of a function, or a core function of the component model's own
pub data Canonical : Type 0 where
  Lift : (core_func : ℕ) → List CanonicalOption → (func_type : ℕ) → Canonical
  Lower : (func : ℕ) → List CanonicalOption → Canonical
  BuiltIn : (code : ℕ) → Canonical

-- an export, and what it is said to be, where that is written
pub record ExportEntry : Type 0 where
  pub name : Name
  pub sort : Sort
  pub index : ℕ
  pub stated : Option Description

-- a section
pub data Section : Type 0 where
  Custom : Name → (rest : List ℕ) → Section
  CoreModule : (bytes : List ℕ) → Section
  CoreInstances : List CoreInstance → Section
  CoreTypes : List (List CoreDeclaration) → Section
  Nested : (bytes : List ℕ) → Section
  Instances : List Instance → Section
  Aliases : List Alias → Section
  Types : List TypeEntry → Section
  Canonicals : List Canonical → Section
  Start : (func : ℕ) → (arguments : List ℕ) → (results : ℕ) → Section
  Imports : List (Name × Description) → Section
  Exports : List ExportEntry → Section
