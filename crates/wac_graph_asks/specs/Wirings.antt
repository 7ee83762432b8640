-- The wiring of a graph, with what its outer imports ask and the types of its definitions as they are written.
use Rattle.std.specs.Prelude.{ℕ, Option, option_map}
use Rattle.wac_types_base.specs.declared.item.ItemKind.{ItemKind}
use Rattle.wac_types_base.specs.Entries.{Name, value_at}
use Rattle.wac_types_base.specs.Stated.{stated_of}
use Rattle.wac_types_base.specs.Tree.{Tree, tree}
use Rattle.wac_types_written.specs.Written.{written_definition}
use Rattle.wac_graph_bytes.specs.Wirings.{Wiring}
use Rattle.wac_graph_core.specs.Graph.{Graph}
use Rattle.wac_graph_core.specs.GraphWiring.{IsWiring}
use Rattle.wac_composition.specs.Asks.{asks_of}
use Rattle.wac_composition.specs.Classes.{spelling}
use Rattle.wac_composition.specs.OuterImports.{outer_imports}
use Rattle.wac_graph_asks.specs.Graphs.{composition_of}

-- what an outer import asks
abbrev pub asked_trees : Graph → Name → Option Tree
asked_trees g n = option_map tree (value_at (outer_imports (asks_of (composition_of g))) n)

abbrev pub written_tree : Graph → ItemKind → Tree
written_tree g k = tree (written_definition (stated_of g.types k))

-- the wiring in which packages are nested
abbrev pub IsGraphWiring : Graph → Wiring ℕ → Type 0
IsGraphWiring g W = IsWiring (spelling (asks_of (composition_of g))) (written_tree g) g (asked_trees g) W
