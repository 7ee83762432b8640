use Rattle.std.proofs.Common.{subst}
use Rattle.std.proofs.lemmas.Result.{IfOk-weaker}
use Rattle.wac_graph_scopes.specs.Orders.{IsSource}
use Rattle.wac_graph_scopes.proofs.OrderLaws.{same_item}
use Rattle.wac_graph_scopes.proofs.order.turn_at.Goals as goal

pub returns-in-Some : goal.returns-in-Some
returns-in-Some c =
    let import = c.in-Some.import in
    IfOk-weaker c.turn_of.result _ _
    (λ t early n k e source. early c.in-Some.ensures.inside.0 (subst IsSource (same_item (n, k) (import.name.now, import.kind) e c.in-Some.ensures.entry) source)) c.turn_of.ensures.early
