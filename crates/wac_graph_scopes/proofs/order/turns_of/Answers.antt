use Rattle.std.proofs.Common.{sym, subst, arith}
use Rattle.wac_graph_scopes.specs.Orders.{IsTurnAt, AreTurns}
use Rattle.wac_graph_scopes.proofs.OrderLaws.{pushed_all}
use Rattle.wac_graph_scopes.proofs.order.turns_of.Goals as goal

pub loop-at-preserved : goal.loop-at-preserved
loop-at-preserved c =
    let a = c.args.all in
    let ts = c.loop-at.turns.items in
    let t = c.in_ok-turn.turn in
    let here = subst (λ k. IsTurnAt a k t) (sym c.loop-at.invariant.0) c.in_ok-turn.ensures in (
      omega (arith, c.in_ok-push.ensures.len, c.loop-at.invariant.0),
      subst (λ l. AreTurns a l) (sym c.in_ok-push.ensures.items) (pushed_all (IsTurnAt a) ts t c.loop-at.invariant.1 here),
    )
