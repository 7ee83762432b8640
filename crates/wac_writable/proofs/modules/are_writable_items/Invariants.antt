use Rattle.std.proofs.Common.{◌≡◌, drop}
use Rattle.std.specs.List.{list_all}
use Rattle.wac_composition.specs.Writable.{writable_extern}
use Rattle.wac_writable.proofs.modules.are_writable_items.Given as goal

-- the rest decides
abbrev pub invariant-loop-item : goal.invariant-loop-item
invariant-loop-item l = list_all writable_extern l.items ≡ list_all writable_extern (drop l.item-index l.items)
