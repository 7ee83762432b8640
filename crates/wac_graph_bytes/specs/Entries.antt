-- The entries of a component, in order, as the binary format of the component model has them. A name is its bytes,
-- an index a number.
use Rattle.std.specs.Prelude.{ℕ, Bool, List, [], ◌∷◌, map, Option}
use Rattle.std.specs.List.{flat_map}
use Rattle.wac_types_base.specs.Entries.{Name}
use Rattle.wac_types_base.specs.declared.item.PrimitiveType.{PrimitiveType}
use Rattle.wac_graph_bytes.specs.declared.value.Sort.{Sort}
use Rattle.wac_graph_bytes.specs.declared.value.ValueType.{ValueType}
use Rattle.wac_graph_bytes.specs.declared.value.Description.{Description}
use Rattle.wac_graph_bytes.specs.declared.module.CoreValue.{CoreValue}
use Rattle.wac_graph_bytes.specs.declared.module.CoreDescription.{CoreDescription}

-- a type entry without declarations (Component Model, binary format: `defvaltype`, `resourcetype`, `functype`)
pub data DefinedType : Type 0 where
  PrimitiveEntry : PrimitiveType → DefinedType
  RecordEntry : (fields : List (Name × ValueType)) → DefinedType
  VariantEntry : (cases : List (Name × Option ValueType)) → DefinedType
  ListEntry : ValueType → DefinedType
  OptionEntry : ValueType → DefinedType
  FixedListEntry : ValueType → ℕ → DefinedType
  TupleEntry : List ValueType → DefinedType
  FlagsEntry : List Name → DefinedType
  EnumEntry : List Name → DefinedType
  ResultEntry : (ok err : Option ValueType) → DefinedType
  OwnEntry : ℕ → DefinedType
  BorrowEntry : ℕ → DefinedType
  StreamEntry : Option ValueType → DefinedType
  FutureEntry : Option ValueType → DefinedType
  FuncEntry : (is_async : Bool) → (params : List (Name × ValueType)) → (answer : Option ValueType) → DefinedType

-- an export of an instance, or an index of the scope that many scopes further out
pub data Alias : Type 0 where
  ExportAlias : Sort → (instance_index : ℕ) → Name → Alias
  OuterAlias : Sort → (count : ℕ) → (index : ℕ) → Alias

-- a declaration of a core module type
pub data CoreDeclaration : Type 0 where
  CoreImport : (from name : Name) → CoreDescription → CoreDeclaration
  CoreSignature : (params results : List CoreValue) → CoreDeclaration
  CoreExport : Name → CoreDescription → CoreDeclaration

-- The declarations of a component type or an instance type, in order. Each constructor has the ones after it last.
pub data Declarations : Type 0 where
  End : Declarations
  CoreThen : List CoreDeclaration → Declarations → Declarations
  TypeThen : DefinedType → Declarations → Declarations
  ComponentTypeThen : Declarations → Declarations → Declarations
  InstanceTypeThen : Declarations → Declarations → Declarations
  AliasThen : Alias → Declarations → Declarations
  ImportThen : Name → Description → Declarations → Declarations
  ExportThen : Name → Description → Declarations → Declarations

-- a type entry
pub data TypeEntry : Type 0 where
  PlainType : DefinedType → TypeEntry
  ComponentType : Declarations → TypeEntry
  InstanceType : Declarations → TypeEntry

-- an export, and what it is said to be, where that is written
pub record ExportEntry : Type 0 where
  pub name : Name
  pub sort : Sort
  pub index : ℕ
  pub stated : Option Description

-- an argument's name, sort and index
abbrev pub Argument : Type 0
Argument = Name × Sort × ℕ

-- an entry of any section
pub data Entry : Type 0 where
  Core : List CoreDeclaration → Entry
  Nested : (bytes : List ℕ) → Entry
  Instantiate : (component : ℕ) → List Argument → Entry
  Aliased : Alias → Entry
  Typed : TypeEntry → Entry
  Imported : Name → Description → Entry
  Exported : ExportEntry → Entry

-- a section, whose entries are of one kind
pub data Section : Type 0 where
  Custom : Name → (rest : List ℕ) → Section
  CoreTypes : List (List CoreDeclaration) → Section
  NestedComponent : List ℕ → Section
  Instances : List (ℕ × List Argument) → Section
  Aliases : List Alias → Section
  Types : List TypeEntry → Section
  Imports : List (Name × Description) → Section
  Exports : List ExportEntry → Section

-- the entries of a section, in order; a custom section has none
abbrev pub section_entries : Section → List Entry
section_entries (Custom name rest) = []
section_entries (CoreTypes ts) = map Core ts
section_entries (NestedComponent bytes) = Nested bytes ∷ []
section_entries (Instances es) = map (λ e. Instantiate e.0 e.1) es
section_entries (Aliases es) = map Aliased es
section_entries (Types es) = map Typed es
section_entries (Imports es) = map (λ e. Imported e.0 e.1) es
section_entries (Exports es) = map Exported es

-- the entries of the sections, in order
abbrev pub entries_of : List Section → List Entry
entries_of ss = flat_map section_entries ss
