use Rattle.std.proofs.Common.{take}
use Rattle.wac_types_parts.specs.Parts.{uses_of}
use Rattle.wac_graph_causes.specs.Orders.{AddsUsed, interfaces_used}
use Rattle.wac_graph_causes.proofs.order.add_uses.Given as goal

-- those of the uses so far
abbrev pub invariant-loop-at : goal.invariant-loop-at
invariant-loop-at l = AddsUsed l.sources (interfaces_used l.sources.types.now (take l.at (uses_of l.sources.types.now l.id))) l.fn.names.items l.names.items
