use Rattle.wac_graph_core.proofs.Compared.{next_same}
use Rattle.wac_graph_core.proofs.standing.same_uses.Goals as goal

pub loop-at-preserved : goal.loop-at-preserved
loop-at-preserved c =
    next_same c.args.a.now c.args.b.now c.loop-at.at c.entry.result.0.now c.entry-in-loop-at.result.0.now c.entry.result.1.now c.entry-in-loop-at.result.1.now c.entry.ensures c.entry-in-loop-at.ensures
    c.if-ne.ensures (c.same_use.ensures.0 c.if-not-same_use.false) c.loop-at.invariant
