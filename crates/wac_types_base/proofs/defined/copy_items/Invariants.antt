use Rattle.std.proofs.Common.{◌≡◌, take}
use Rattle.wac_types_base.proofs.defined.copy_items.Given as goal

-- the entries so far
abbrev pub invariant-loop-at : goal.invariant-loop-at
invariant-loop-at l = l.copy ≡ take l.at l.items
