use Rattle.std.proofs.Common.{◌≡◌, take}
use Rattle.wac_graph_causes.specs.Late.{interface_items}
use Rattle.wac_graph_causes.proofs.late.interfaces_of.Given as goal

-- the interfaces so far
abbrev pub invariant-loop-at : goal.invariant-loop-at
invariant-loop-at l = l.interfaces ≡ interface_items (take l.at l.items)
