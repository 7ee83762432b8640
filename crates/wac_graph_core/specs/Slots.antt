-- Nodes in slots, each in that of its index.
use Rattle.std.specs.Prelude.{ℕ, ◌+◌, List, [], ◌∷◌, Option, Some, None}
use Rattle.std.specs.FinMap as map
use Rattle.wac_graph_core.specs.Nodes.{NodeData}
use Rattle.wac_graph_core.specs.NodeMaps.{NodeMap}

-- the nodes in these slots, each with its index, where the first slot has this one
abbrev pub entries_from : ℕ → List (Option NodeData) → List (ℕ × NodeData)
entries_from k [] = []
entries_from k (None ∷ slots) = entries_from (k + 1) slots
entries_from k (Some x ∷ slots) = (k, x) ∷ entries_from (k + 1) slots

-- the nodes under their indexes
abbrev pub nodes_in : List (Option NodeData) → NodeMap
nodes_in slots = map.from_entries (entries_from 0 slots)
