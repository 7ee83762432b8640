use Rattle.std.proofs.Common.{take}
use Rattle.wac_types_fit.specs.Checking.{HasAll, import_at}
use Rattle.wac_types_fit.proofs.core_items.imports_fit.Given as goal

-- the imports so far are given
abbrev pub invariant-loop-at : goal.invariant-loop-at
invariant-loop-at l = HasAll import_at l.given (take l.at l.asked)
