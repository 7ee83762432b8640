use Rattle.std.proofs.Common.{subst, arith}
use Rattle.wac_graph_scopes.specs.Orders.{IsBegun}
use Rattle.wac_graph_scopes.proofs.OrderLaws.{none_pushed}
use Rattle.wac_graph_scopes.proofs.order.none_begun.Goals as goal

pub loop-at-preserved : goal.loop-at-preserved
loop-at-preserved c = record {
  len = omega (arith, c.in_ok-push.ensures.len, c.loop-at.invariant.len);
  none = λ k h. none_pushed c.loop-at.begun.items c.loop-at.invariant.none k (subst (λ l. IsBegun l k) c.in_ok-push.ensures.items h);
}
