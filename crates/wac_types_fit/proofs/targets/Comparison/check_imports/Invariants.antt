use Rattle.std.proofs.Common.{take}
use Rattle.wac_types_base.specs.declared.item.ExternKind.{ExternKind}
use Rattle.wac_types_base.specs.Implicit.{shown}
use Rattle.wac_types_fit.specs.Checking.{IsTrueOf}
use Rattle.wac_types_fit.specs.Targets.{target_import, ImportDiffers, ImportLeads, Differing}
use Rattle.wac_types_fit.specs.TargetSteps.{mismatches}
use Rattle.wac_types_fit.proofs.targets.Comparison.check_imports.Given as goal

-- the imports so far
abbrev pub invariant-loop-at : goal.invariant-loop-at
invariant-loop-at l = record {
  checked : Differing (ImportDiffers l.types (target_import (shown l.implicit.entries) l.target.imports)) (ImportLeads l.types (target_import (shown l.implicit.entries) l.target.imports)) ExternKind.Import (take l.at l.imports) (mismatches l.fn.self.found.items) (mismatches l.self.found.items);
  cache : IsTrueOf l.types l.types l.self.cache.keys;
}
