-- What holds of the worlds that documents declare.
use Rattle.std.specs.Prelude.{◌≡◌, List, Option, Ok}
use Rattle.wac_types_base.specs.declared.ids.WorldId.{WorldId}
use Rattle.wac_types_base.specs.declared.item.ItemKind.{ItemKind}
use Rattle.wac_types_base.specs.declared.item.«Type».{«Type» as TypeKind}
use Rattle.wac_types_base.specs.Collection.{IsAcyclic}
use Rattle.wac_types_base.specs.Entries.{Name}
use Rattle.wac_types_base.specs.Graph.{Among}
use Rattle.wac_types_base.specs.Stated.{Stated, stated_of}
use Rattle.wac_types_names.specs.Keys.{Key}
use Rattle.wac_graph_core.specs.Graph.{Graph}
use Rattle.wac_parser_tree.specs.Trees.{Document}
use Rattle.wac_parser_declare.specs.Packages.{Content}
use Rattle.wac_parser_resolve.specs.Ascribing.{State}
use Rattle.wac_parser_resolve.specs.InDocuments.{IsBuilt}
use Rattle.wac_parser_resolve.specs.Meeting.{resolved}
use Rattle.wac_parser_resolve.specs.Resolved.{Places}
use Rattle.wac_texts.specs.declared.declared.Declares.{Declares}
use Rattle.wac_texts.specs.Declarations.{declared_in}
use Rattle.wac_texts.specs.Worlds.{IsDefined}

-- the graph defines a world under that name, and its type is the one that the document defines so
pub record DefinesWorld (g : Graph) (name : Name) (definitions : List (Name × Stated)) : Type 0 where
  pub world : WorldId
  pub defined : IsDefined g name world
  pub said : Among (name, stated_of g.types (ItemKind.Ty (TypeKind.World world))) definitions

-- the graph that holds what a document says defines each world that the document declares
abbrev pub Declared_worlds_are_defined : Type 0
Declared_worlds_are_defined = (d : Document) (ps : List (Key × Content)) (r : State × Option Stated) (g : Graph) (at : Places)
    → resolved d ps ≡ Ok r → IsAcyclic g.types → IsBuilt g at r.0
    → (name : Name) → declared_in d name ≡ Declares.World → DefinesWorld g name r.0.definitions
