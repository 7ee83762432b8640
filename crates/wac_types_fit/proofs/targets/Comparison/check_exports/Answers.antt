use Rattle.std.proofs.Common.{◌∙◌}
use Rattle.wac_types_base.specs.declared.item.ExternKind.{ExternKind}
use Rattle.wac_types_base.specs.Entries.{value_at}
use Rattle.wac_types_fit.specs.Targets.{ExportDiffers, ExportLeads}
use Rattle.wac_types_fit.specs.TargetSteps.{mismatches}
use Rattle.wac_types_fit.proofs.Reports.{nothing_differs, export_step}
use Rattle.wac_types_fit.proofs.targets.Comparison.check_exports.Goals as goal
use Rattle.wac_types_base.proofs.Looked.{among-get}

pub loop-at-init : goal.loop-at-init
loop-at-init c = record {
  checked = nothing_differs (ExportDiffers c.args.types.now (value_at c.args.component.now.exports)) (ExportLeads c.args.types.now (value_at c.args.component.now.exports)) ExternKind.Export c.args.exports.now (mismatches c.args.self.now.found.items);
  cache = c.requires.cache;
}

pub check_export-requires-clause-asked : goal.check_export-requires-clause-asked
check_export-requires-clause-asked c =
    c.requires.asked c.entry.result.0.now c.entry.result.1.now (among-get c.args.exports.now c.loop-at.at (c.entry.result.0.now, c.entry.result.1.now) c.entry.ensures)

pub loop-at-preserved : goal.loop-at-preserved
loop-at-preserved c = record {
  checked = export_step (value_at c.args.component.now.exports) c.args.exports.now c.loop-at.at c.entry.result.0.now c.entry.result.1.now c.entry.ensures
      c.args.types.now c.copied-given.result (mismatches c.args.self.now.found.items) (mismatches c.loop-at.self.found.items) (mismatches c.check_export.new.self.found.items) (c.copied-given.ensures ∙ c.get.ensures) c.loop-at.invariant.checked c.in_ok-check_export.ensures.checked;
  cache = c.check_export.ensures.cache;
}
