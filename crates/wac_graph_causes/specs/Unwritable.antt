-- Types that cannot be written: which cause is told.
use Rattle.std.specs.Prelude.{◌≡◌, ℕ, Bool, true, false, List, [], map, Option, Some, None, option_map, string_bytes, slice_get, if◌then◌else◌}
use Rattle.std.specs.Map.{keys_of}
use Rattle.wac_types_base.specs.declared.ids.InterfaceId.{InterfaceId}
use Rattle.wac_types_base.specs.declared.ids.WorldId.{WorldId}
use Rattle.wac_types_base.specs.declared.item.ItemKind.{ItemKind}
use Rattle.wac_types_base.specs.Record.{Collection}
use Rattle.wac_types_base.specs.Entries.{Name, with_values}
use Rattle.wac_types_base.specs.Graph.{Among}
use Rattle.wac_types_base.specs.Stated.{Stated, stated_in, stated_of}
use Rattle.wac_types_names.specs.Packaged.{Packaged}
use Rattle.wac_graph_core.specs.declared.ids.PackageId.{PackageId}
use Rattle.wac_graph_core.specs.Walking.{first_source}
use Rattle.wac_graph_core.specs.Graph.{Graph, node_at, package_of}
use Rattle.wac_composition.specs.Asks.{asks_of}
use Rattle.wac_composition.specs.OuterImports.{outer_imports}
use Rattle.wac_composition.specs.Writable.{holder, outer_unwritable, definition_unwritable, package_unwritable, alias_unwritable}
use Rattle.std.specs.Option.{option_or}
use Rattle.wac_composition.specs.Conflicts.{Cause, Unwritable, first_found, cause_at, unwritable_cause}
use Rattle.wac_types_parts.specs.Parts.{imports_of}
use Rattle.wac_writable.specs.Unnamed.{KnowsAll}
use Rattle.wac_writable.specs.Holders.{Holds}
use Rattle.wac_graph_asks.specs.declared.asks.Asked.{Asked}
use Rattle.wac_graph_asks.specs.declared.asks.Definition.{Definition}
use Rattle.wac_graph_asks.specs.declared.outers.Outers.{Outers}
use Rattle.wac_graph_asks.specs.Graphs.{composition_of}
use Rattle.wac_graph_asks.specs.Asked.{HasCopy, IsHeld, IsWorldOf, placed_in}
use Rattle.wac_graph_asks.specs.Outers.{HasImportsAlone}
use Rattle.wac_graph_causes.specs.declared.error.Unwritten.{Unwritten}
use Rattle.wac_graph_causes.specs.declared.writable.Beside.{Beside}
use Rattle.wac_graph_causes.specs.Alike.{AreHeld, dependency_of}

-- ---- the refusal

-- it tells this name, or want of memory
abbrev pub TellsName : Name → Unwritten → Type 0
TellsName n (Unwritten.TypeCannotBeWritten m) = string_bytes m ≡ n
TellsName n Unwritten.Memory = Unit {0}

-- it tells this cause, or want of memory
abbrev pub TellsUnwritable : Option (Cause ℕ) → Unwritten → Type 0
TellsUnwritable o (Unwritten.TypeCannotBeWritten m) = o ≡ Some (Unwritable (string_bytes m))
TellsUnwritable o Unwritten.Memory = Unit {0}

-- the first of these that cannot be written
abbrev pub first_unwritable : (Name × Stated → Bool) → List (Name × Stated) → Option (Cause ℕ)
first_unwritable p es = first_found (cause_at p) es

-- ---- aliases

abbrev pub is_value_item : ItemKind → Bool
is_value_item (ItemKind.Value v) = true
is_value_item k = false

abbrev pub is_value_in : Option ItemKind → Bool
is_value_in None = false
is_value_in (Some k) = is_value_item k

-- a node's item is a value
abbrev pub is_value_at : Graph → ℕ → Bool
is_value_at g k = is_value_in (option_map (λ x. x.item_kind) (node_at g k))

-- the cause that an alias of this export is, if its item is a value
abbrev pub alias_cause_by : Bool → Option (ℕ × Name) → Option (Cause ℕ)
alias_cause_by value None = None
alias_cause_by value (Some e) = if value then Some (Unwritable e.1) else None

abbrev pub alias_cause_at : Graph → ℕ → Option (Cause ℕ)
alias_cause_at g k = alias_cause_by (is_value_at g k) (first_source g.edges k)

abbrev pub first_alias_cause : Graph → List ℕ → Option (Cause ℕ)
first_alias_cause g ks = first_found (alias_cause_at g) ks

-- the first alias of a value item, in the graph's composition
abbrev pub alias_cause : Graph → Option (Cause ℕ)
alias_cause g = first_unwritable alias_unwritable (composition_of g).aliases

-- ---- outer imports

-- what is found of interfaces
abbrev pub Findings : Type 0
Findings = List (InterfaceId × Bool)

abbrev pub outers_in : Asked → Outers → List (Name × Stated)
outers_in asked outers = with_values (stated_of asked.types) (imports_of asked.types outers.world)

-- the first outer import that cannot be written beside all of them
abbrev pub outer_cause : List (Name × Stated) → Option (Cause ℕ)
outer_cause os = first_unwritable (outer_unwritable os) os

-- where what is found is true, and the outer imports' world has its imports alone
abbrev pub IfFound : Asked → Outers → Findings → Type 0 → Type 0
IfFound asked outers found P = KnowsAll asked.types found → HasImportsAlone asked.types outers.world → P

-- it tells the import at this place
abbrev pub TellsImport : Collection → WorldId → ℕ → Unwritten → Type 0
TellsImport c w at e = (x : Name × ItemKind) → slice_get (imports_of c w) at ≡ Some x → TellsName x.0 e

abbrev pub OutersPass : Asked → Outers → Findings → Type 0
OutersPass asked outers found = IfFound asked outers found (outer_cause (outers_in asked outers) ≡ None)

abbrev pub TellsOuterCause : Asked → Outers → Findings → Unwritten → Type 0
TellsOuterCause asked outers found e = IfFound asked outers found (TellsUnwritable (outer_cause (outers_in asked outers)) e)

-- ---- definitions

-- what a definition is, under its name
abbrev pub defined_at : Collection → Definition → Name × Stated
defined_at c d = (d.name, stated_of c (ItemKind.Ty d.ty))

abbrev pub defined_in : Collection → List Definition → List (Name × Stated)
defined_in c ds = map (defined_at c) ds

-- the cause that a definition is beside these outer imports, and the first of these
abbrev pub definition_cause : Collection → List (Name × Stated) → Definition → Option (Cause ℕ)
definition_cause c os d = cause_at (definition_unwritable os) (defined_at c d)

abbrev pub definitions_cause : Collection → List (Name × Stated) → List Definition → Option (Cause ℕ)
definitions_cause c os ds = first_unwritable (definition_unwritable os) (defined_in c ds)

-- in both holders stand these outer imports alone: for copies in the other collection, and for the rest in its own
pub record StandBeside (c other : Collection) (s : Beside) (os : List (Name × Stated)) : Type 0 where
  pub copies : Holds other s.copies (holder [] os)
  pub rest : Holds c s.rest (holder [] os)

abbrev pub KeepsBeside : (c other : Collection) → (old new : Beside) → Type 0
KeepsBeside c other old new = (os : List (Name × Stated)) → StandBeside c other old os → StandBeside c other new os

-- where what is found is true and the definition has its copy, this is so beside the outer imports
abbrev pub IfCopied : (c other : Collection) → Findings → Beside → Definition → (List (Name × Stated) → Type 0) → Type 0
IfCopied c other found s d P =
    KnowsAll other found → HasCopy c other d.ty d.copy → (os : List (Name × Stated)) → StandBeside c other s os → P os

abbrev pub TellsDefined : (c other : Collection) → Findings → Beside → Definition → Bool → Type 0
TellsDefined c other found s d b = IfCopied c other found s d (λ os. b ≡ definition_unwritable os (defined_at c d))

abbrev pub DefinitionPasses : (c other : Collection) → Findings → Beside → Definition → Type 0
DefinitionPasses c other found s d = IfCopied c other found s d (λ os. definition_cause c os d ≡ None)

abbrev pub TellsDefinitionAt : (c other : Collection) → Findings → Beside → Definition → Unwritten → Type 0
TellsDefinitionAt c other found s d e = IfCopied c other found s d (λ os. TellsUnwritable (definition_cause c os d) e)

-- where each of them has its copy
abbrev pub HaveCopies : (c other : Collection) → List Definition → Type 0
HaveCopies c other ds = (d : Definition) → Among d ds → HasCopy c other d.ty d.copy

abbrev pub IfAllCopied : (c other : Collection) → Findings → Beside → List Definition → (List (Name × Stated) → Type 0) → Type 0
IfAllCopied c other found s ds P =
    KnowsAll other found → HaveCopies c other ds → (os : List (Name × Stated)) → StandBeside c other s os → P os

abbrev pub EachPasses : (c other : Collection) → Findings → Beside → List Definition → Type 0
EachPasses c other found s ds = IfAllCopied c other found s ds (λ os. definitions_cause c os ds ≡ None)

abbrev pub TellsFirstOf : (c other : Collection) → Findings → Beside → List Definition → Unwritten → Type 0
TellsFirstOf c other found s ds e = IfAllCopied c other found s ds (λ os. TellsUnwritable (definitions_cause c os ds) e)

-- the first definition that cannot be written beside the outer imports that are held
abbrev pub defined_cause : Graph → Asked → Outers → Option (Cause ℕ)
defined_cause g asked outers = definitions_cause g.types (outers_in asked outers) asked.definitions.items

-- where what is found is true, what is asked is held, and the outer imports' world has its imports alone
abbrev pub IfHeld : Graph → Asked → Outers → Findings → Type 0 → Type 0
IfHeld g asked outers found P = KnowsAll asked.types found → HasImportsAlone asked.types outers.world → IsHeld g asked → P

abbrev pub DefinitionsPass : Graph → Asked → Outers → Findings → Type 0
DefinitionsPass g asked outers found = IfHeld g asked outers found (defined_cause g asked outers ≡ None)

abbrev pub TellsDefinitionCause : Graph → Asked → Outers → Findings → Unwritten → Type 0
TellsDefinitionCause g asked outers found e = IfHeld g asked outers found (TellsUnwritable (defined_cause g asked outers) e)

-- ---- packages

abbrev pub package_world : Graph → Option Packaged → Stated
package_world g None = stated_in None
package_world g (Some p) = stated_of g.types (ItemKind.Component p.ty)

-- the world of a package, under the name by which it is imported
abbrev pub dependency_at : Graph → PackageId → Name × Stated
dependency_at g id = (dependency_of g id, package_world g (package_of g id))

abbrev pub dependencies_at : Graph → List PackageId → List (Name × Stated)
dependencies_at g ids = map (dependency_at g) ids

-- the cause that a package is, if its world cannot be written
abbrev pub package_cause : Graph → PackageId → Option (Cause ℕ)
package_cause g id = cause_at package_unwritable (dependency_at g id)

abbrev pub packages_cause : Graph → Asked → Option (Cause ℕ)
packages_cause g asked = first_unwritable package_unwritable (dependencies_at g (keys_of asked.packages.entries))

-- where what is found is true, and the world is the package's
abbrev pub IfPackage : Graph → Asked → Findings → PackageId → WorldId → Type 0 → Type 0
IfPackage g asked found id w P = KnowsAll asked.types found → IsWorldOf g asked.types id w → P

abbrev pub PackagePasses : Graph → Asked → Findings → PackageId → WorldId → Type 0
PackagePasses g asked found id w = IfPackage g asked found id w (package_cause g id ≡ None)

abbrev pub TellsPackageAt : Graph → Asked → Findings → PackageId → WorldId → Unwritten → Type 0
TellsPackageAt g asked found id w e = IfPackage g asked found id w (TellsUnwritable (package_cause g id) e)

-- where what is found is true, and what is asked is held
abbrev pub IfPackages : Graph → Asked → Findings → Type 0 → Type 0
IfPackages g asked found P = KnowsAll asked.types found → IsHeld g asked → P

abbrev pub PackagesPass : Graph → Asked → Findings → Type 0
PackagesPass g asked found = IfPackages g asked found (packages_cause g asked ≡ None)

abbrev pub TellsPackageCause : Graph → Asked → Findings → Unwritten → Type 0
TellsPackageCause g asked found e = IfPackages g asked found (TellsUnwritable (packages_cause g asked) e)

-- ---- all

-- packages are not tested where components are defined
abbrev pub packages_unless : (define : Bool) → Graph → Asked → Option (Cause ℕ)
packages_unless true g asked = None
packages_unless false g asked = packages_cause g asked

-- the first of outer imports, definitions and packages
abbrev pub types_cause : (define : Bool) → Graph → Asked → Outers → Option (Cause ℕ)
types_cause define g asked outers =
    option_or (outer_cause (outers_in asked outers)) (option_or (defined_cause g asked outers) (packages_unless define g asked))

abbrev pub TypesPass : (define : Bool) → Graph → Asked → Outers → Findings → Type 0
TypesPass define g asked outers found = IfHeld g asked outers found (types_cause define g asked outers ≡ None)

abbrev pub TellsTypesCause : (define : Bool) → Graph → Asked → Outers → Findings → Unwritten → Type 0
TellsTypesCause define g asked outers found e =
    IfHeld g asked outers found (TellsUnwritable (types_cause define g asked outers) e)

-- all that a graph asks and defines is held, and the world of its outer imports has them alone
pub record IsWhole (g : Graph) (asked : Asked) (outers : Outers) : Type 0 where
  pub all : AreHeld g asked outers
  pub held : IsHeld g asked
  pub definitions : map (placed_in g.types) asked.definitions.items ≡ (composition_of g).definitions
  pub alone : HasImportsAlone asked.types outers.world

-- the outer imports of the graph's composition
abbrev pub outers_of : Graph → List (Name × Stated)
outers_of g = outer_imports (asks_of (composition_of g))

-- the first type of the graph's composition that cannot be written
abbrev pub unwritten_cause : (define : Bool) → Graph → Option (Cause ℕ)
unwritten_cause define g = unwritable_cause define (composition_of g) (outers_of g)

abbrev pub TellsUnwritten : (define : Bool) → Graph → Unwritten → Type 0
TellsUnwritten define g e = TellsUnwritable (unwritten_cause define g) e
