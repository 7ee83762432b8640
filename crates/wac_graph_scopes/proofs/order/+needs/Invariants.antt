use Rattle.std.proofs.Common.{◌+◌, ◌*◌, take}
use Rattle.wac_types_base.specs.declared.item.ItemKind.{ItemKind}
use Rattle.wac_types_base.specs.Collection.{size_of}
use Rattle.wac_types_base.specs.Entries.{values_of}
use Rattle.wac_types_parts.specs.Parts.{exports_of}
use Rattle.wac_graph_scopes.specs.UsePlaces.{AddsUses}
use Rattle.wac_graph_scopes.proofs.order.+needs.Given as goal

abbrev pub decreases-add_needs : goal.decreases-add_needs
decreases-add_needs l = 2 * size_of l.types.now l.kind + 1

abbrev pub decreases-add_needs_of_exports : goal.decreases-add_needs_of_exports
decreases-add_needs_of_exports l = 2 * size_of l.types.now (ItemKind.Instance l.id)

-- those of the exports so far
abbrev pub invariant-add_needs_of_exports-loop-at : goal.invariant-add_needs_of_exports-loop-at
invariant-add_needs_of_exports-loop-at l = AddsUses l.types l.found (values_of (take l.at (exports_of l.types l.id))) l.fn.needs.items l.needs.items
