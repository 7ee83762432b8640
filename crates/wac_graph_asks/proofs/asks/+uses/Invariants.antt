use Rattle.std.proofs.Common.{◌+◌, ◌*◌, take}
use Rattle.wac_types_base.specs.declared.item.ItemKind.{ItemKind}
use Rattle.wac_types_base.specs.Collection.{size_of}
use Rattle.wac_composition.specs.Asks.{asked_for}
use Rattle.wac_graph_asks.specs.AskedUses.{all_with_used, used_by_items, AddsUses}
use Rattle.wac_graph_asks.proofs.asks.+uses.Given as goal

abbrev pub decreases-ask_use : goal.decreases-ask_use
decreases-ask_use l = 4 * size_of l.types.now (ItemKind.Instance l.id) + 3

abbrev pub decreases-ask_direct : goal.decreases-ask_direct
decreases-ask_direct l = 4 * size_of l.types.now (ItemKind.Instance l.id) + 1

abbrev pub decreases-ask_exports : goal.decreases-ask_exports
decreases-ask_exports l = 4 * size_of l.types.now (ItemKind.Instance l.id) + 1

abbrev pub decreases-ask_uses : goal.decreases-ask_uses
decreases-ask_uses l = 4 * size_of l.types.now l.kind + 2

-- what the uses so far use is added
abbrev pub invariant-ask_direct-loop-used : goal.invariant-ask_direct-loop-used
invariant-ask_direct-loop-used l = AddsUses l.types l.initial.all l.all (asked_for l.by (all_with_used l.types (take l.used-index l.uses)))

-- what the items so far use is added
abbrev pub invariant-ask_exports-loop-item : goal.invariant-ask_exports-loop-item
invariant-ask_exports-loop-item l = AddsUses l.types l.initial.all l.all (asked_for l.by (used_by_items l.types (take l.item-index l.items)))
