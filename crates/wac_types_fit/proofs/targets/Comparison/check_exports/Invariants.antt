use Rattle.std.proofs.Common.{take}
use Rattle.wac_types_base.specs.declared.item.ExternKind.{ExternKind}
use Rattle.wac_types_base.specs.Entries.{value_at}
use Rattle.wac_types_fit.specs.Checking.{IsTrueOf}
use Rattle.wac_types_fit.specs.Targets.{ExportDiffers, ExportLeads, Differing}
use Rattle.wac_types_fit.specs.TargetSteps.{mismatches}
use Rattle.wac_types_fit.proofs.targets.Comparison.check_exports.Given as goal

-- the exports so far
abbrev pub invariant-loop-at : goal.invariant-loop-at
invariant-loop-at l = record {
  checked : Differing (ExportDiffers l.types (value_at l.component.exports)) (ExportLeads l.types (value_at l.component.exports)) ExternKind.Export (take l.at l.exports) (mismatches l.fn.self.found.items) (mismatches l.self.found.items);
  cache : IsTrueOf l.types l.types l.self.cache.keys;
}
