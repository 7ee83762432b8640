use Rattle.std.proofs.Common.{◌≡◌, length, arith}
use Rattle.std.proofs.lemmas.Result.{on_ok_weaker}
use Rattle.wac_graph_scopes.specs.Orders.{has_turn}
use Rattle.wac_graph_scopes.specs.Behind.{lists_of}
use Rattle.wac_graph_scopes.proofs.PuttingLaws.{turn_put}
use Rattle.wac_graph_scopes.proofs.order.Order.put_at.Goals as goal

pub returns-then-is_turn-clause-exactly : goal.returns-then-is_turn-clause-exactly
returns-then-is_turn-clause-exactly c =
    let old = c.args.self.now in
    let new = c.put.new.self in
    let deep : c.len-count.result ≡ length old.begun.items = omega (arith, c.len-count.ensures) in
    on_ok_weaker c.put.result
    (λ f. turn_put (lists_of old.needs.items) c.len-count.result (length old.begun.items) c.args.at (has_turn old.turns.items c.args.turn) c.is_turn.result old.begun.items new.begun.items old.order.items new.order.items
    deep c.is_turn.ensures.test c.if-is_turn.true f)
    c.put.ensures.exactly
