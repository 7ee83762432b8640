use Rattle.std.proofs.Common.{◌+◌, ◌*◌, take}
use Rattle.wac_types_base.specs.declared.item.ItemKind.{ItemKind}
use Rattle.wac_types_base.specs.Collection.{items, size_of}
use Rattle.wac_types_base.proofs.Telling.{row_size}
use Rattle.wac_graph_causes.specs.Inside.{AddsWorlds, inside_items}
use Rattle.wac_graph_causes.proofs.inside.+inside.Given as goal

abbrev pub decreases-add_items : goal.decreases-add_items
decreases-add_items l = 4 * row_size l.types.now (items l.items.now) + 4

abbrev pub decreases-add_item : goal.decreases-add_item
decreases-add_item l = 4 * size_of l.types.now l.item + 3

abbrev pub decreases-add_type : goal.decreases-add_type
decreases-add_type l = 4 * size_of l.types.now (ItemKind.Ty l.ty) + 2

abbrev pub decreases-add_interface : goal.decreases-add_interface
decreases-add_interface l = 4 * size_of l.types.now (ItemKind.Instance l.id) + 1

abbrev pub decreases-add_world : goal.decreases-add_world
decreases-add_world l = 4 * size_of l.types.now (ItemKind.Component l.id) + 1

-- those of the items so far were added
abbrev pub invariant-add_items-loop-at : goal.invariant-add_items-loop-at
invariant-add_items-loop-at l = AddsWorlds l.types (inside_items l.types (take l.at l.items)) l.fn.worlds.items l.worlds.items
