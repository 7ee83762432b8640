use Rattle.wac_types_base.specs.declared.item.ExternKind.{ExternKind}
use Rattle.wac_types_base.specs.Implicit.{shown}
use Rattle.wac_types_fit.specs.Targets.{target_import, ImportDiffers, ImportLeads}
use Rattle.wac_types_fit.specs.TargetSteps.{mismatches}
use Rattle.wac_types_fit.proofs.Reports.{nothing_differs, import_step}
use Rattle.wac_types_fit.proofs.targets.Comparison.check_imports.Goals as goal
use Rattle.wac_types_base.proofs.Looked.{among-get}

pub loop-at-init : goal.loop-at-init
loop-at-init c = record {
  checked = nothing_differs (ImportDiffers c.args.types.now (target_import (shown c.args.implicit.now.entries) c.args.target.now.imports)) (ImportLeads c.args.types.now (target_import (shown c.args.implicit.now.entries) c.args.target.now.imports)) ExternKind.Import c.args.imports.now (mismatches c.args.self.now.found.items);
  cache = c.requires.cache;
}

pub check_import-requires-clause-asked : goal.check_import-requires-clause-asked
check_import-requires-clause-asked c =
    c.requires.asked c.entry.result.0.now c.entry.result.1.now (among-get c.args.imports.now c.loop-at.at (c.entry.result.0.now, c.entry.result.1.now) c.entry.ensures)

pub loop-at-preserved : goal.loop-at-preserved
loop-at-preserved c = record {
  checked = import_step (target_import (shown c.args.implicit.now.entries) c.args.target.now.imports) c.args.imports.now c.loop-at.at c.entry.result.0.now c.entry.result.1.now c.entry.ensures
      c.args.types.now c.given_import-given.result (mismatches c.args.self.now.found.items) (mismatches c.loop-at.self.found.items) (mismatches c.check_import.new.self.found.items) c.given_import-given.ensures c.loop-at.invariant.checked c.in_ok-check_import.ensures.checked;
  cache = c.check_import.ensures.cache;
}
