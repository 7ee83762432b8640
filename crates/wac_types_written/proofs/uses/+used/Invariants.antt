use Rattle.std.proofs.Common.{◌+◌, ◌*◌, take}
use Rattle.wac_types_base.specs.declared.item.ItemKind.{ItemKind}
use Rattle.wac_types_base.specs.Collection.{items, size_of, used}
use Rattle.wac_types_base.proofs.Telling.{row_size}
use Rattle.wac_types_written.specs.Walked.{Walks, below_items, below_uses}
use Rattle.wac_types_written.proofs.uses.+used.Given as goal

abbrev pub decreases-add_through : goal.decreases-add_through
decreases-add_through l = 4 * size_of l.types.now (ItemKind.Instance l.id) + 3

abbrev pub decreases-add_dependencies : goal.decreases-add_dependencies
decreases-add_dependencies l = 4 * size_of l.types.now (ItemKind.Instance l.id) + 2

abbrev pub decreases-add_uses : goal.decreases-add_uses
decreases-add_uses l = 4 * row_size l.types.now (used l.uses.now) + 4

abbrev pub decreases-add_items : goal.decreases-add_items
decreases-add_items l = 4 * row_size l.types.now (items l.items.now) + 4

abbrev pub decreases-add_item : goal.decreases-add_item
decreases-add_item l = 4 * size_of l.types.now l.item + 3

-- what those so far use was added
abbrev pub invariant-add_uses-loop-at : goal.invariant-add_uses-loop-at
invariant-add_uses-loop-at l = Walks l.types (below_uses l.types (take l.at l.uses)) l.fn.walk l.walk

abbrev pub invariant-add_items-loop-at : goal.invariant-add_items-loop-at
invariant-add_items-loop-at l = Walks l.types (below_items l.types (take l.at l.items)) l.fn.walk l.walk
