use Rattle.std.proofs.lemmas.Result.{IfOk-weaker}
use Rattle.wac_graph_scopes.specs.Behind.{lists_of}
use Rattle.wac_graph_scopes.proofs.order.export_order.Goals as goal

pub returns-clause-listed : goal.returns-clause-listed
returns-clause-listed c = IfOk-weaker c.order_by_needs.result _ _ (λ v h. (lists_of c.in_ok-needs.needs.items, c.in_ok-needs.ensures.uses, h)) c.order_by_needs.ensures.listed
