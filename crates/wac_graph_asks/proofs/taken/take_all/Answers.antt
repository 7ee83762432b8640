use Rattle.wac_graph_asks.specs.Takes.{IfConflict, RefusesAll}
use Rattle.wac_graph_asks.proofs.TakingMore.{again_err, if_conflict}
use Rattle.wac_graph_asks.proofs.TakingAll.{so_far_first, so_far_next, refused_at}
use Rattle.wac_graph_asks.proofs.taken.take_all.Goals as goal

pub loop-at-preserved : goal.loop-at-preserved
loop-at-preserved c =
    so_far_next c.args.types.now c.see_acyclic.ensures c.args.asks.now c.args.labels.now c.loop-at.at c.place_at.result c.loop-at.types c.take.new.types c.loop-at.taken.entries c.take.new.taken.entries c.loop-at-test.true c.place_at.ensures
    c.loop-at.invariant c.in_ok-take.ensures.takes c.take.ensures.grows

pub loop-at-init : goal.loop-at-init
loop-at-init c = so_far_first c.args.types.now c.see_acyclic.ensures c.args.asks.now c.args.labels.now c.args.taken.now.entries c.requires

pub returns-in_err-take-clause-refused : goal.returns-in_err-take-clause-refused
returns-in_err-take-clause-refused c =
    again_err c.from_residual.result (λ e. IfConflict e (RefusesAll c.args.types.now c.args.asks.now c.args.labels.now)) c.in_err-take.field-0.0 c.from_residual.ensures.1
    (if_conflict c.in_err-take.field-0.0 (refused_at c.args.types.now c.see_acyclic.ensures c.args.asks.now c.args.labels.now c.loop-at.at c.place_at.result c.loop-at.types c.loop-at.taken.entries c.loop-at-test.true c.place_at.ensures c.loop-at.invariant) c.in_err-take.ensures.refused)
