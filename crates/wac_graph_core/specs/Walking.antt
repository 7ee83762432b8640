-- What is found in a list of edges, and how many end outside a list of nodes.
use Rattle.std.specs.Prelude.{ℕ, ◌+◌, List, [], ◌∷◌, Bool, true, false, ◌&&◌, ◌==◌, Option, Some, None, if◌then◌else◌}
use Rattle.std.specs.Cmp.Lexicographic.{pointwise}
use Rattle.wac_types_base.specs.Entries.{Name}
use Rattle.wac_graph_core.specs.declared.edge.Edge.{Edge}
use Rattle.wac_graph_core.specs.declared.edge.Label.{Label}
use Rattle.wac_graph_core.specs.Edges.{has}

abbrev pub is_argument : Label → Name → Bool
is_argument (Label.Argument m) n = pointwise ◌==◌ m n
is_argument _ n = false

abbrev pub first_argument : List Edge → ℕ → Name → Option ℕ
first_argument [] i n = None
first_argument (e ∷ es) i n = if (e.to == i) && is_argument e.label n then Some e.from else first_argument es i n

-- what an edge into the node says, and else the rest
abbrev pub source_by : Bool → Label → ℕ → Option (ℕ × Name) → Option (ℕ × Name)
source_by true (Label.Alias n) i rest = Some (i, n)
source_by true _ i rest = rest
source_by false l i rest = rest

abbrev pub first_source : List Edge → ℕ → Option (ℕ × Name)
first_source [] k = None
first_source (e ∷ es) k = source_by (e.to == k) e.label e.from (first_source es k)

-- how many edges end outside the list
abbrev pub outside : List ℕ → List Edge → ℕ
outside seen [] = 0
outside seen (e ∷ es) = (if has seen e.to then 0 else 1) + outside seen es
