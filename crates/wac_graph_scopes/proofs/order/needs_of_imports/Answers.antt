use Rattle.std.proofs.lemmas.Result.{IfOk-weaker}
use Rattle.wac_graph_scopes.proofs.order.needs_of_imports.Goals as goal

pub returns-clause-needs : goal.returns-clause-needs
returns-clause-needs c = IfOk-weaker c.needs_in_order.result _ _ (λ v h. (c.in_ok-order.order.keys, c.in_ok-order.ensures, h)) c.needs_in_order.ensures.needs
