use Rattle.std.proofs.Common.{◌≡◌, length}
use Rattle.wac_graph_core.specs.Imports.{explicit_list}
use Rattle.wac_graph_core.proofs.imports.ExplicitIterIterator.next.Given as goal

-- only other nodes were passed over
abbrev pub invariant-loop-id : goal.invariant-loop-id
invariant-loop-id l = explicit_list l.self-inside.entries ≡ l.fn.self

abbrev pub decreases-loop-id : goal.decreases-loop-id
decreases-loop-id l = length l.self-inside.entries
