use Rattle.std.proofs.Common.{take}
use Rattle.wac_types_base.specs.Entries.{entries_of, value_at}
use Rattle.wac_types_fit.specs.Targets.{IsLacking, AreThose}
use Rattle.wac_types_fit.proofs.targets.missing_exports.Given as goal

-- the items so far
abbrev pub invariant-loop-at : goal.invariant-loop-at
invariant-loop-at l = AreThose (IsLacking (value_at l.component.exports)) (take l.at l.exports) (entries_of l.missing.items)
