use Rattle.std.proofs.Common.{◌∙◌, [], ap, sym, subst}
use Rattle.wac_types_base.specs.Entries.{entries_of, value_at}
use Rattle.wac_types_fit.specs.Targets.{IsLacking, AreThose, none_left}
use Rattle.wac_types_fit.proofs.Reports.{missing_step}
use Rattle.wac_types_fit.proofs.targets.missing_exports.Goals as goal

pub loop-at-init : goal.loop-at-init
loop-at-init c = subst (AreThose (IsLacking (value_at c.args.component.now.exports)) []) (sym (ap entries_of c.new-missing.ensures.items)) none_left

pub loop-at-preserved : goal.loop-at-preserved
loop-at-preserved c =
    missing_step (value_at c.args.component.now.exports) c.args.exports.now c.loop-at.at c.entry.result.0.now c.entry.result.1.now c.entry.ensures
    c.copied-given.result (entries_of c.loop-at.missing.items) (entries_of c.add_missing.new.missing.items) (c.copied-given.ensures ∙ c.get.ensures) c.loop-at.invariant c.in_ok-add_missing.ensures
