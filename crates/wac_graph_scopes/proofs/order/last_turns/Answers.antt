use Rattle.std.proofs.Common.{slice_get, ap, ◌∙◌, arith}
use Rattle.wac_graph_scopes.specs.declared.order.Turn.{Turn}
use Rattle.wac_graph_scopes.proofs.OrderLaws.{last_pushed}
use Rattle.wac_graph_scopes.proofs.order.last_turns.Goals as goal

pub loop-at-preserved : goal.loop-at-preserved
loop-at-preserved c = record {
  len = omega (arith, c.in_ok-push.ensures.len, c.loop-at.invariant.len);
  last = λ k lt. ap (λ l. slice_get l k) c.in_ok-push.ensures.items ∙ last_pushed c.loop-at.turns.items Turn.Others c.loop-at._at c.loop-at.invariant.len c.loop-at.invariant.last k lt;
}
