use Rattle.std.proofs.Common.{◌≡◌, ◌++◌, take}
use Rattle.wac_types_merge.specs.Interfaces.{new_in}
use Rattle.wac_types_merge.proofs.exports.add_exports.Given as goal

-- the new ones so far
abbrev pub invariant-loop-at : goal.invariant-loop-at
invariant-loop-at l = l.all ≡ l.fn.all ++ new_in l.kept (take l.at l.asked)
