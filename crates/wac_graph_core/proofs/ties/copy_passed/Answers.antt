use Rattle.std.proofs.Common.{refl, ◌∙◌}
use Rattle.wac_graph_core.proofs.TieKeys.{names_rise, shown_more, shown_all}
use Rattle.wac_graph_core.proofs.ties.copy_passed.Goals as goal

pub loop-name-preserved : goal.loop-name-preserved
loop-name-preserved c = shown_more c.as_slice-name-items.result.now c.loop-name.copies.items c.push.new.self.items c.loop-name.name-index c.loop-name-item.result _ c.loop-name-test.true c.loop-name-item.is c.loop-name.invariant c.in_ok-push.ensures.items (c.in_ok-own.ensures.ok ∙ c.as_str.ensures.value, refl)

pub from_sorted-requires : goal.from_sorted-requires
from_sorted-requires c = names_rise c.args.list.now.items c.loop-name.copies.items (shown_all c.as_slice-name-items.result.now c.args.list.now.items c.loop-name.copies.items c.loop-name.name-index c.loop-name-test.false c.as_slice-name-items.ensures.value c.loop-name.invariant) c.see_sorted.ensures
