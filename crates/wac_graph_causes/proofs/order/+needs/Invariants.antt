use Rattle.std.proofs.Common.{◌+◌, ◌*◌, take}
use Rattle.wac_types_base.specs.declared.item.ItemKind.{ItemKind}
use Rattle.wac_types_base.specs.Collection.{size_of}
use Rattle.wac_types_parts.specs.Parts.{exports_of}
use Rattle.wac_graph_causes.specs.Orders.{AddsUsed, used_in_items}
use Rattle.wac_graph_causes.proofs.order.+needs.Given as goal

abbrev pub decreases-add_needs : goal.decreases-add_needs
decreases-add_needs l = 2 * size_of l.sources.types.now l.kind + 1

abbrev pub decreases-add_needs_of_exports : goal.decreases-add_needs_of_exports
decreases-add_needs_of_exports l = 2 * size_of l.sources.types.now (ItemKind.Instance l.id)

-- those of the exports so far
abbrev pub invariant-add_needs_of_exports-loop-at : goal.invariant-add_needs_of_exports-loop-at
invariant-add_needs_of_exports-loop-at l = AddsUsed l.sources (used_in_items l.sources.types.now (take l.at (exports_of l.sources.types.now l.id))) l.fn.names.items l.names.items
