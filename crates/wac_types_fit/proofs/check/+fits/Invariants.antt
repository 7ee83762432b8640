use Rattle.std.proofs.Common.{◌+◌, ◌*◌, take}
use Rattle.wac_types_base.specs.declared.item.ItemKind.{ItemKind}
use Rattle.wac_types_base.specs.Collection.{size_of}
use Rattle.wac_types_fit.specs.Checking.{GivesAll, OnlyTrue, IsTrueOf}
use Rattle.wac_types_fit.proofs.check.+fits.Given as goal

abbrev pub decreases-fits : goal.decreases-fits
decreases-fits l = 8 * (size_of l.sides.given.now l.a + size_of l.sides.asked.now l.b) + 5

abbrev pub decreases-unfolded : goal.decreases-unfolded
decreases-unfolded l = 8 * (size_of l.sides.given.now l.a + size_of l.sides.asked.now l.b) + 4

abbrev pub decreases-types_fit : goal.decreases-types_fit
decreases-types_fit l = 8 * (size_of l.sides.given.now (ItemKind.Ty l.a) + size_of l.sides.asked.now (ItemKind.Ty l.b)) + 3

abbrev pub decreases-instances_fit : goal.decreases-instances_fit
decreases-instances_fit l = 8 * (size_of l.sides.given.now (ItemKind.Instance l.a) + size_of l.sides.asked.now (ItemKind.Instance l.b)) + 2

abbrev pub decreases-worlds_fit : goal.decreases-worlds_fit
decreases-worlds_fit l = 8 * (size_of l.sides.given.now (ItemKind.Component l.a) + size_of l.sides.asked.now (ItemKind.Component l.b)) + 2

abbrev pub decreases-items_fit : goal.decreases-items_fit
decreases-items_fit l = 8 * (size_of l.sides.given.now l.given.of + size_of l.sides.asked.now l.asked.of) + 1

abbrev pub decreases-item_fits : goal.decreases-item_fits
decreases-item_fits l = 8 * (size_of l.sides.given.now l.given.of + size_of l.sides.asked.now l.asked.kind)

-- where the cache was true, the items so far are given, and the cache is true
abbrev pub invariant-items_fit-loop-index : goal.invariant-items_fit-loop-index
invariant-items_fit-loop-index l =
    IsTrueOf l.sides.given.now l.sides.asked.now l.fn.cache.keys
    → GivesAll l.sides.given.now l.given.items.now l.sides.asked.now (take l.index l.asked.items.now)
    × OnlyTrue l.sides.given.now l.sides.asked.now l.fn.cache.keys l.cache.keys
    × IsTrueOf l.sides.given.now l.sides.asked.now l.cache.keys
