-- What the bytes of a resolved document mean: the wiring that its text says, over the packages that were handed in.
use Rattle.std.specs.Prelude.{◌≡◌, ℕ, true, false, List, Option, Some, Ok}
use Rattle.wac_types_base.specs.declared.ids.WorldId.{WorldId}
use Rattle.wac_types_base.specs.declared.item.ItemKind.{ItemKind}
use Rattle.wac_types_base.specs.Record.{Collection}
use Rattle.wac_types_base.specs.Graph.{Among}
use Rattle.wac_types_base.specs.Stated.{Stated, instance_type}
use Rattle.wac_types_base.specs.Tree.{tree}
use Rattle.wac_types_names.specs.Keys.{Key}
use Rattle.wac_graph_bytes.specs.Meaning.{Means}
use Rattle.wac_graph_bytes.specs.Typing.{Worlds}
use Rattle.wac_graph_bytes.specs.Wirings.{Tag, OfDependency, Wiring, Same}
use Rattle.wac_types_written.specs.Forms.{IsOf}
use Rattle.wac_composition.specs.Conflicts.{dependency_name}
use Rattle.wac_composition.specs.OuterLaws.{AreMet}
use Rattle.wac_composition.specs.Wired.{composed_wiring}
use Rattle.wac_composition.specs.Worlds.{composed_world}
use Rattle.wac_graph_core.specs.Graph.{Graph}
use Rattle.wac_graph_encode.specs.declared.options.EncodeOptions.{EncodeOptions}
use Rattle.wac_parser_tree.specs.Trees as t
use Rattle.wac_parser_declare.specs.Packages.{Content}
use Rattle.wac_parser_resolve.specs.Ascribed.{composition}
use Rattle.wac_parser_resolve.specs.Ascribing.{Made, State}
use Rattle.wac_parser_resolve.specs.InDocuments.{IsBuilt}
use Rattle.wac_parser_resolve.specs.Meeting.{resolved}
use Rattle.wac_parser_resolve.specs.Resolved.{Places}
use Rattle.wac_parser_ascribed.specs.Tied.{handed_tag, ascribed_wiring}

-- the worlds say of each package that is instantiated, under its tag, what its stated world says
abbrev pub AreTrueAs : (Key → Tag) → State → Worlds → Type 0
AreTrueAs tag s worlds = (m : Made) → Among m s.made → worlds (tag m.key) ≡ Some (tree (instance_type m.world))

abbrev pub AreTrueOf : State → Worlds → Type 0
AreTrueOf s worlds = AreTrueAs (handed_tag s.packages) s worlds

-- In these worlds the bytes mean the wiring that is ascribed, but for the numbers of instances.
pub record MeansIn (s : State) (worlds : Worlds) (bytes : List ℕ) : Type 0 where
  pub meant : Wiring ℕ
  pub means : Means worlds bytes meant
  pub same : Same (ascribed_wiring s) meant

-- so it is in all worlds that are true of the packages
abbrev pub MeansAscribed : State → List ℕ → Type 0
MeansAscribed s bytes = (worlds : Worlds) → AreTrueOf s worlds → MeansIn s worlds bytes

-- Where packages are nested, so it is of each document that the graph is built from.
unfoldable pub MeansResolved : Graph → EncodeOptions → List ℕ → Type 0
MeansResolved g options bytes = options.define_components ≡ true
    → (d : t.Document) (ps : List (Key × Content)) (r : State × Option Stated) (at : Places) → resolved d ps ≡ Ok r
    → IsBuilt g at r.0 → MeansAscribed r.0 bytes

-- ---- with packages imported

abbrev pub imported_tag : Key → Tag
imported_tag k = OfDependency (dependency_name k)

-- In these worlds the bytes mean the wiring that is ascribed, and import each package under that name, as a component of its
-- stated world.
pub record ImportsIn (s : State) (worlds : Worlds) (bytes : List ℕ) : Type 0 where
  pub meant : Wiring ℕ
  pub means : Means worlds bytes meant
  pub same : Same (composed_wiring imported_tag (composition s)) meant
  pub packages : (m : Made) → Among m s.made → Among (dependency_name m.key, tree m.world) means.states.last.listed.imports

abbrev pub ImportsAscribed : State → List ℕ → Type 0
ImportsAscribed s bytes =
    (worlds : Worlds) → AreTrueAs imported_tag s worlds → ImportsIn s worlds bytes

-- Where packages are imported, so it is of each document that the graph is built from.
unfoldable pub ImportsResolved : Graph → EncodeOptions → List ℕ → Type 0
ImportsResolved g options bytes = options.define_components ≡ false
    → (d : t.Document) (ps : List (Key × Content)) (r : State × Option Stated) (at : Places) → resolved d ps ≡ Ok r
    → IsBuilt g at r.0 → ImportsAscribed r.0 bytes

-- ---- the world

-- Each ask of what is said is met, and the world states what is said: what it asks of the outside and what it exports.
pub record IsWorldOf (s : State) (types : Collection) (world : WorldId) : Type 0 where
  pub met : AreMet (composition s)
  pub states : IsOf types (composed_world (composition s)) (ItemKind.Component world)

-- so it is of each document that the graph is built from
unfoldable pub HasResolvedWorld : Graph → Collection → WorldId → Type 0
HasResolvedWorld g types world = (d : t.Document) (ps : List (Key × Content)) (r : State × Option Stated) (at : Places)
    → resolved d ps ≡ Ok r → IsBuilt g at r.0 → IsWorldOf r.0 types world
