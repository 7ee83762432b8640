use Rattle.std.proofs.Common.{◌≡◌, ◌++◌, take}
use Rattle.wac_types_written.proofs.components.add_all.Given as goal

-- the items so far are behind the others
abbrev pub invariant-loop-at : goal.invariant-loop-at
invariant-loop-at l = l.all ≡ l.fn.all ++ take l.at l.items
