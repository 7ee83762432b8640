use Rattle.std.proofs.Common.{◌≡◌, ◌++◌, take}
use Rattle.wac_types_parts.specs.Parts.{imports_of}
use Rattle.wac_graph_asks.specs.AskedNodes.{unbound_asks}
use Rattle.wac_graph_asks.proofs.asks.push_unbound.Given as goal

-- what is asked of the imports so far is added
abbrev pub invariant-loop-at : goal.invariant-loop-at
invariant-loop-at l = l.asks.items ≡ l.initial.asks.items ++ unbound_asks l.node l.bound (take l.at (imports_of l.types l.world))
