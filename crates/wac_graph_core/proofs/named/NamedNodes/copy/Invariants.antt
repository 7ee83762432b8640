use Rattle.std.proofs.Common.{◌≡◌, take}
use Rattle.wac_graph_core.proofs.named.NamedNodes.copy.Given as goal

-- those so far
abbrev pub invariant-loop-at : goal.invariant-loop-at
invariant-loop-at l = l.copies.items ≡ take l.at l.self.items
