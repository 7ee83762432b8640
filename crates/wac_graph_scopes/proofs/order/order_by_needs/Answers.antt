use Rattle.std.proofs.lemmas.List.{length-map}
use Rattle.std.proofs.Common.{◌≡◌, [], ◌++◌, arith, length, slice_get, ap, ◌∙◌, subst}
use Rattle.wac_graph_scopes.specs.Orders.{IsOrder, Puts, PutsEach, turn_places}
use Rattle.wac_graph_scopes.specs.Behind.{lists_of, places_in_order}
use Rattle.wac_graph_scopes.specs.declared.order.Turn.{Turn}
use Rattle.wac_graph_scopes.proofs.OrderLaws.{last_order}
use Rattle.wac_graph_scopes.proofs.PuttingLaws.{listed_in_order, listed_behind}
use Rattle.wac_graph_scopes.proofs.order.order_by_needs.Goals as goal

pub returns-clause-order : goal.returns-clause-order
returns-clause-order c =
    let order = c.in_ok-order.order in
    let new = c.put_both.new.self in
    let turns = c.in_ok-turns.ensures in
    let all = c.in_ok-all.ensures in
    let same : c.len.result ≡ length c.args.needs.items = omega (arith, c.len.ensures) in
    subst (λ n. IsOrder n [] c.in_ok-all.all.items) same
    (last_order order.turns.items order.begun.items new.begun.items c.in_ok-all.all.items _ (ap (λ ts. length ts.items) c.in_ok-order.ensures.turns ∙ turns.len) c.in_ok-order.ensures.len c.in_ok-order.ensures.none
    (subst (λ l. Puts order.begun.items new.begun.items l c.in_ok-all.all.items) c.in_ok-order.ensures.order all.puts)
    (λ k lt. ap (λ ts. slice_get ts.items k) c.in_ok-order.ensures.turns ∙ turns.last k lt) all.second)

pub returns-clause-listed : goal.returns-clause-listed
returns-clause-listed c =
    let order = c.in_ok-order.order in
    let new = c.put_both.new.self in
    let turns = c.in_ok-turns.ensures in
    let made = c.in_ok-order.ensures in
    let needs = lists_of order.needs.items in
    let many : length needs ≡ length c.args.needs.items = length-map order.needs.items _ ∙ ap (λ ns. length ns.items) made.needs in
    let len : length order.begun.items ≡ length needs = omega (arith, made.len, ap (λ ts. length ts.items) made.turns, turns.len, c.len.ensures, many) in
    let ts = order.turns.items in
    let count = length order.begun.items in
    let f = subst (λ l. PutsEach needs count (turn_places ts Turn.Types count ++ turn_places ts Turn.Others count) order.begun.items new.begun.items l c.in_ok-all.all.items) made.order c.in_ok-all.ensures.exactly in
    listed_in_order needs ts order.begun.items new.begun.items c.in_ok-all.all.items len made.none
    (λ k lt. ap (λ us. slice_get us.items k) made.turns ∙ turns.last k (omega (arith, lt, many, c.len.ensures))) f ∙ ap (λ ns. places_in_order (lists_of ns.items)) made.needs

pub returns-clause-behind : goal.returns-clause-behind
returns-clause-behind c = listed_behind (lists_of c.args.needs.items) c.in_ok-all.all.items (returns-clause-listed c)
