use Rattle.std.proofs.Common.{◌<◌, length, arith, length-set, ◌∙◌}
use Rattle.wac_graph_asks.proofs.Roots.{settles, leads_in}
use Rattle.wac_graph_asks.proofs.classes.settle.Goals as goal

pub loop-at-preserved : goal.loop-at-preserved
loop-at-preserved c =
    let i = c.loop-at.invariant in
    let w : c.loop-at.at < length c.loop-at.labels.items = omega arith in
    let s = settles c.args.labels.now.items c.loop-at.labels.items c.loop-at.at c.first_of-first.result i.still i.settled (leads_in _ _ _ _ c.deref.ensures.value c.first_of-first.ensures) w in
    record { as_many = length-set c.loop-at.labels.items c.loop-at.at c.first_of-first.result ∙ i.as_many; still = s.0; settled = s.1 }
