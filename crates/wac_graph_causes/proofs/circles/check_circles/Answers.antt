use Rattle.std.proofs.lemmas.Result.{on_ok_weaker, IfErr-weaker}
use Rattle.wac_graph_causes.proofs.circles.check_circles.Goals as goal

pub returns-clause-none : goal.returns-clause-none
returns-clause-none c =
    let w = c.in_ok-all.ensures.written in
    on_ok_weaker c.check_written.result (λ pass asks are. pass _ _ _ (w.outers asks are) w.definitions w.packages) c.check_written.ensures.none

pub returns-clause-cause : goal.returns-clause-cause
returns-clause-cause c =
    let w = c.in_ok-all.ensures.written in
    IfErr-weaker c.check_written.result _ _ (λ e told asks are. told _ _ _ (w.outers asks are) w.definitions w.packages) c.check_written.ensures.cause
