-- The packages that a document instantiates which is read of a text can be imported, and so can those of its graph.
use Rattle.std.proofs.Common.{◌≡◌, ℕ, List, Option, Some, Ok, ap, sym, subst, ◌∙◌}
use Rattle.wac_types_base.specs.Graph.{Among}
use Rattle.wac_types_base.specs.Stated.{Stated}
use Rattle.wac_types_names.specs.Keys.{Key, package_key}
use Rattle.wac_types_names.specs.Packaged.{Packaged}
use Rattle.wac_graph_core.specs.Graph.{Graph, instantiated}
use Rattle.wac_parser_tree.specs.Trees as t
use Rattle.wac_parser_tree.specs.Segments.{IsPathIn}
use Rattle.wac_parser_grammar.specs.Paths.{IsNewIn}
use Rattle.wac_parser_grammar.specs.PathsOfTrees.{EachInDocument}
use Rattle.wac_parser_declare.specs.Packages.{Content}
use Rattle.wac_parser_resolve.specs.Ascribing.{Made, State}
use Rattle.wac_parser_resolve.specs.InDocuments.{IsBuilt}
use Rattle.wac_parser_resolve.specs.Meeting.{resolved}
use Rattle.wac_parser_resolve.specs.Resolved.{Places}
use Rattle.wac_parser_resolve.proofs.Instantiated.{said_at}
use Rattle.wac_importable.specs.Importable.{IsImportable}
use Rattle.wac_importable.proofs.Unbroken.{importable, tracked_importable}
use Rattle.wac_importable.proofs.Instantiated.{instances_are}

pub document_importable : (source : List ℕ) (d : t.Document) → EachInDocument (IsNewIn source) (IsPathIn source) d → (ps : List (Key × Content)) (r : State × Option Stated) → resolved d ps ≡ Ok r
    → (m : Made) → Among m r.0.made → IsImportable m.key
document_importable source =
    instances_are IsImportable (IsNewIn source) (IsPathIn source) (λ p stands. importable p.string p.name p.version stands.form stands.parts)
    (λ p track ks v stands. tracked_importable p.string p.name track ks v stands.form stands.parts)

pub graph_importable : (g : Graph) (at : Places) (s : State) → IsBuilt g at s → ((m : Made) → Among m s.made → IsImportable m.key) → (p : Packaged) → (k : ℕ) × (instantiated g k ≡ Some p) → IsImportable (package_key p)
graph_importable g at s b each p node =
    let m = said_at g at s b node.0 p node.1 in
    subst IsImportable (sym m.is.key ∙ ap package_key m.of) (each m.made m.among)
