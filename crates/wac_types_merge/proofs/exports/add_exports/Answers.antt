use Rattle.wac_types_merge.proofs.Joining.{added_more, added_new}
use Rattle.wac_types_merge.proofs.exports.add_exports.Goals as goal

pub add_export-requires : goal.add_export-requires
add_export-requires c none =
    added_new c.args.kept.now c.args.asked.now c.args.all.now c.loop-at.all c.loop-at.at c.entry.result.0.now c.entry.result.1.now c.entry.ensures c.len-at-end.ensures.distinct c.requires c.loop-at.invariant none

pub loop-at-preserved : goal.loop-at-preserved
loop-at-preserved c =
    added_more c.args.kept.now c.args.asked.now c.args.all.now c.loop-at.all c.add_export.new.all c.loop-at.at c.entry.result.0.now c.entry.result.1.now c.entry.ensures c.loop-at.invariant c.in_ok-add_export.ensures
