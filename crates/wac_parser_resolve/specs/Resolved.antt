-- What callers see of a resolution: the document, the graph that it builds, the world that it targets, and where things stand.
use Rattle.std.specs.Prelude.{ℕ, List, Option}
use Rattle.wac_types_base.specs.declared.ids.WorldId.{WorldId}
use Rattle.wac_graph_core.specs.Graph.{Graph}
use Rattle.wac_parser_tree.specs.Trees.{Span}
use Rattle.wac_parser_tree.specs.declared.document.Document.{Document}
use Rattle.wac_parser_resolve.specs.declared.resolver.AstResolver.{AstResolver}
use Rattle.wac_parser_resolve.specs.declared.resolver.Said.{Said}
use Rattle.wac_parser_resolve.specs.declared.resolver.Resolved.{Resolved}
use Rattle.wac_parser_resolve.specs.Ascribed.{span_or_none}
use Rattle.std.specs.Option.{option_or}
use Rattle.wac_parser_resolve.specs.Said.{last_noted}

-- ---- where things stand

-- nodes with the places of import names, of identifiers, and of the packages that are instantiated
pub record Places : Type 0 where
  pub imports : List (ℕ × Span)
  pub ids : List (ℕ × Span)
  pub instances : List (ℕ × Span)

-- where the name of an import stands; of any other node the start of the source is told
abbrev pub import_place : Places → ℕ → Span
import_place at k = span_or_none (last_noted at.imports k)

-- where who asks stands: the package of an instance, else the identifier of an import or of a declaration
abbrev pub asker_place : Places → ℕ → Span
asker_place at k = span_or_none (option_or (last_noted at.instances k) (last_noted at.ids k))

-- of what a document says
abbrev pub graph_said : Said → Graph
graph_said s = s.graph

abbrev pub target_said : Said → Option WorldId
target_said s = s.target

abbrev pub places_said : Said → Places
places_said s = record { imports = s.imports.noted.items; ids = s.ids.noted.items; instances = s.instances.noted.items }

-- of a document with what it says
abbrev pub document_of : {D : Type 0} → Resolved D → D
document_of r = r.document.now

abbrev pub graph_of : {D : Type 0} → Resolved D → Graph
graph_of r = graph_said r.said

abbrev pub target_of : {D : Type 0} → Resolved D → Option WorldId
target_of r = target_said r.said

abbrev pub places_of : {D : Type 0} → Resolved D → Places
places_of r = places_said r.said

-- the document that a resolver is for
abbrev pub asked_of : AstResolver → Document
asked_of r = r.document.now
