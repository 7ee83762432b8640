-- That the packages which a source instantiates can be imported.
use Rattle.std.specs.Prelude.{◌≡◌, ℕ, List, Option, Some, Ok}
use Rattle.wac_names.specs.ComponentNames.{IsDependency}
use Rattle.wac_types_base.specs.Graph.{Among}
use Rattle.wac_types_base.specs.Stated.{Stated}
use Rattle.wac_types_names.specs.Keys.{Key, package_key}
use Rattle.wac_types_names.specs.Packaged.{Packaged}
use Rattle.wac_graph_core.specs.Graph.{Graph, instantiated}
use Rattle.wac_composition.specs.Conflicts.{dependency_name}
use Rattle.wac_parser_tree.specs.Trees as t
use Rattle.wac_parser_grammar.specs.Documents.{document}
use Rattle.wac_parser_grammar.specs.Reads.{read_source}
use Rattle.wac_parser_grammar.specs.Paths.{IsText, IsNameIn}
use Rattle.wac_parser_declare.specs.Packages.{Content}
use Rattle.wac_parser_resolve.specs.Ascribing.{Made, State}
use Rattle.wac_parser_resolve.specs.InDocuments.{IsBuilt}
use Rattle.wac_parser_resolve.specs.Meeting.{resolved}
use Rattle.wac_parser_resolve.specs.Resolved.{Places}

-- what a package of this key is imported as is the name of a dependency
abbrev pub IsImportable : Key → Type 0
IsImportable k = IsDependency (dependency_name k)

-- so it is of each package name that stands in a text
abbrev pub NamesAreImportable : Type 0
NamesAreImportable = (source : List ℕ) (name : t.PackageName) → IsNameIn source name → IsImportable (name.name, name.version)

-- and of each package that a document instantiates which is read of a text
abbrev pub InstancesAreImportable : Type 0
InstancesAreImportable = (source : List ℕ) → IsText source → (d : t.Document) → read_source document source ≡ Ok d
    → (ps : List (Key × Content)) (r : State × Option Stated) → resolved d ps ≡ Ok r
    → (m : Made) → Among m r.0.made → IsImportable m.key

-- and of each package that a graph instantiates which holds what such a document says
abbrev pub GraphsAreImportable : Type 0
GraphsAreImportable = (source : List ℕ) → IsText source → (d : t.Document) → read_source document source ≡ Ok d
    → (ps : List (Key × Content)) (r : State × Option Stated) → resolved d ps ≡ Ok r
    → (g : Graph) (at : Places) → IsBuilt g at r.0
    → (p : Packaged) → (k : ℕ) × (instantiated g k ≡ Some p) → IsImportable (package_key p)
