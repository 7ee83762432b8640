use Rattle.std.proofs.Common.{◌≡◌, [], length}
use Rattle.wac_graph_core.specs.Imports.{filled_list}
use Rattle.wac_graph_core.proofs.imports.FilledIterIterator.next.Given as goal

-- only nodes were passed over that import nothing, and nothing is left of the last one
abbrev pub invariant-loop-id : goal.invariant-loop-id
invariant-loop-id l = (filled_list l.self-inside.graph.now l.self-inside.entries ≡ l.fn.self) × (l.self-inside.unbound ≡ [])

abbrev pub decreases-loop-id : goal.decreases-loop-id
decreases-loop-id l = length l.self-inside.entries
