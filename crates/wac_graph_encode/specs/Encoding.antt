-- What encoding a graph gives, and when it is refused.
use Rattle.std.specs.List.{list_all}
use Rattle.std.specs.Prelude.{◌≡◌, ◌↔◌, ℕ, Bool, true, false, List, [], ◌∷◌, map, Option, Some, None, option_map}
use Rattle.wac_types_base.specs.declared.item.ItemKind.{ItemKind}
use Rattle.wac_types_base.specs.declared.ids.WorldId.{WorldId}
use Rattle.wac_types_base.specs.Record.{Collection}
use Rattle.wac_types_base.specs.Entries.{AreDistinct, Name}
use Rattle.wac_types_base.specs.Graph.{Among}
use Rattle.wac_types_base.specs.Stated.{stated_of}
use Rattle.wac_types_base.specs.Tree.{Tree, tree, tree_of}
use Rattle.wac_types_names.specs.Packaged.{Packaged}
use Rattle.wac_types_names.specs.Keys.{package_key}
use Rattle.wac_graph_bytes.specs.declared.entry.Processor.{Processor}
use Rattle.wac_graph_bytes.specs.declared.entry.Entry.{Entry as CodeEntry}
use Rattle.wac_graph_bytes.specs.declared.value.Sort.{Sort}
use Rattle.wac_graph_bytes.specs.Entries.{Entry, Nested, Section, entries_of}
use Rattle.wac_graph_bytes.specs.Views.{view, processor_view}
use Rattle.wac_graph_bytes.specs.Spelling.{component_bytes}
use Rattle.wac_graph_bytes.specs.Wirings.{Tag, OfBytes, OfDependency, Instantiation, Wiring, Same}
use Rattle.wac_graph_bytes.specs.Typing.{Worlds}
use Rattle.wac_graph_bytes.specs.Meaning.{Means, States}
use Rattle.wac_graph_bytes.specs.Writing.{entry_fits, sections_for}
use Rattle.wac_graph_core.specs.declared.ids.PackageId.{PackageId}
use Rattle.wac_graph_core.specs.Graph.{Graph, package_of, instantiated}
use Rattle.wac_composition.specs.Conflicts.{dependency_name}
use Rattle.wac_composition.specs.Worlds.{composed_world}
use Rattle.wac_types_written.specs.Forms.{IsOf}
use Rattle.wac_graph_asks.specs.Graphs.{composition_of}
use Rattle.wac_graph_asks.specs.Wirings.{IsGraphWiring}

-- ---- the wiring of a graph, as its bytes have it

-- the name under which a package is imported in place of being nested
abbrev pub dependency_tag : Option Packaged → Tag → Tag
dependency_tag None t = t
dependency_tag (Some p) t = OfDependency (dependency_name (package_key p))

abbrev pub tagged : Tag → Instantiation ℕ → Instantiation ℕ
tagged t x = record { tag = t; args = x.args }

-- the wiring in which packages are imported
abbrev pub with_dependencies : Graph → Wiring ℕ → Wiring ℕ
with_dependencies g W = record {
  outers = W.outers;
  at = λ k. option_map (λ x. tagged (dependency_tag (instantiated g k) x.tag) x) (W.at k);
  exports = W.exports;
}

abbrev pub as_written : (define : Bool) → Graph → Wiring ℕ → Wiring ℕ
as_written true g W = W
as_written false g W = with_dependencies g W

-- ---- worlds

-- how a package's instances are tagged
abbrev pub tag_of : (define : Bool) → Packaged → Tag
tag_of true p = OfBytes p.bytes
tag_of false p = OfDependency (dependency_name (package_key p))

-- the worlds say of each package that is instantiated what its stated world says
pub record AreTrueOf (define : Bool) (g : Graph) (worlds : Worlds) : Type 0 where
  pub each : (k : ℕ) (p : Packaged) → instantiated g k ≡ Some p
      → worlds (tag_of define p) ≡ tree_of g.types (ItemKind.Instance p.instance_type)

abbrev pub IsInstantiated : Graph → Packaged → Type 0
IsInstantiated g p = (k : ℕ) × (instantiated g k ≡ Some p)

-- ---- nested components

abbrev pub nested_in : List Entry → List (List ℕ)
nested_in [] = []
nested_in (Nested bytes ∷ es) = bytes ∷ nested_in es
nested_in (e ∷ es) = nested_in es

-- the components that code entries nest
abbrev pub nested_at : List CodeEntry → List (List ℕ)
nested_at es = nested_in (map view es)

abbrev pub bytes_in : Option Packaged → List ℕ
bytes_in None = []
bytes_in (Some p) = p.bytes

-- the bytes of the package of an id
abbrev pub bytes_of : Graph → PackageId → List ℕ
bytes_of g id = bytes_in (package_of g id)

abbrev pub nested_strings : (define : Bool) → List Packaged → List (List ℕ)
nested_strings true packages = map (λ p. p.bytes) packages
nested_strings false packages = []

-- The entries nest the packages that are instantiated, in some order, each once and unchanged; none where they are imported.
pub record NestPackages (define : Bool) (g : Graph) (entries : List Entry) : Type 0 where
  pub packages : List Packaged
  pub once : AreDistinct (map package_key packages)
  pub those : (p : Packaged) → Among p packages ↔ IsInstantiated g p
  pub nested : nested_in entries ≡ nested_strings define packages

-- and so does the component with these bytes
pub record NestsPackages (define : Bool) (g : Graph) (bytes : List ℕ) : Type 0 where
  pub sections : List Section
  pub spelled : bytes ≡ component_bytes sections
  pub nest : NestPackages define g (entries_of sections)

-- ---- the theorem

-- where packages are imported, this one is: as a component of its stated world, under its dependency's name
abbrev pub IsImportedIn : (define : Bool) → Graph → Packaged → List (Name × Tree) → Type 0
IsImportedIn true g p imports = Unit {0}
IsImportedIn false g p imports =
    Among (dependency_name (package_key p), tree (stated_of g.types (ItemKind.Component p.ty))) imports

-- It is the graph's wiring, of which there is one, but for the numbers of instances; packages that are not nested stand among
-- the imports.
pub record IsOfGraph (define : Bool) (g : Graph) (meant : Wiring ℕ) (imports : List (Name × Tree)) : Type 0 where
  pub same : (W : Wiring ℕ) → IsGraphWiring g W → Same (as_written define g W) meant
  pub packages : (p : Packaged) → IsInstantiated g p → IsImportedIn define g p imports

-- In these worlds the entries state the graph's wiring.
pub record StateGraph (define : Bool) (g : Graph) (worlds : Worlds) (entries : List Entry) : Type 0 where
  pub meant : Wiring ℕ
  pub states : States worlds entries meant
  pub of : IsOfGraph define g meant states.last.listed.imports

-- In these worlds the bytes mean the graph's wiring.
pub record MeansGraph (define : Bool) (g : Graph) (worlds : Worlds) (bytes : List ℕ) : Type 0 where
  pub meant : Wiring ℕ
  pub means : Means worlds bytes meant
  pub of : IsOfGraph define g meant means.states.last.listed.imports

-- so it is in all worlds that are true of the packages
abbrev pub MeansWiring : (define : Bool) → Graph → List ℕ → Type 0
MeansWiring define g bytes = (worlds : Worlds) → AreTrueOf define g worlds → MeansGraph define g worlds bytes

-- with the packages nested, or imported: each that is instantiated, once
pub record IsComposed (define : Bool) (g : Graph) (bytes : List ℕ) : Type 0 where
  pub nests : NestsPackages define g bytes
  pub means : MeansWiring define g bytes

-- The component says of itself that this processor has written it, where one is given, and of no other: behind the sections of
-- its entries and of names for debuggers.
pub record TellsProcessor (processor : Option Processor) (bytes : List ℕ) : Type 0 where
  pub entries : List Entry
  pub names : List (Sort × List (ℕ × Name))
  pub spelled : bytes ≡ component_bytes (sections_for entries (option_map processor_view processor) names)

-- a number in one of the entries passes 32 bits
abbrev pub HasUnfit : List Entry → Type 0
HasUnfit entries = list_all entry_fits entries ≡ false

-- The entries of the component do not fit: with the packages nested, or imported, they state the graph's wiring in all worlds
-- that are true of the packages, and a count, an index, a length or a size in one of them passes 32 bits.
pub record IsOversized (define : Bool) (g : Graph) : Type 0 where
  pub entries : List Entry
  pub nest : NestPackages define g entries
  pub state : (worlds : Worlds) → AreTrueOf define g worlds → StateGraph define g worlds entries
  pub unfit : HasUnfit entries

-- The world that is handed out states what the composition asks of the outside and exports, with order, identifiers and uses,
-- and no world in it has uses of its own.
abbrev pub HasTrueWorld : Graph → Collection → WorldId → Type 0
HasTrueWorld g types world = IsOf types (composed_world (composition_of g)) (ItemKind.Component world)
