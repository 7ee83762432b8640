use Rattle.std.proofs.Common.{take}
use Rattle.wac_types_base.specs.Entries.{value_at}
use Rattle.wac_types_fit.specs.Checking.{HasAll}
use Rattle.wac_types_fit.proofs.core_items.exports_fit.Given as goal

-- the exports so far are given
abbrev pub invariant-loop-at : goal.invariant-loop-at
invariant-loop-at l = HasAll value_at l.given (take l.at l.asked)
