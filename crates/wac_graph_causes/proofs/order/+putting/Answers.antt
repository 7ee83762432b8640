use Rattle.std.proofs.Common.{◌≡◌, suc, ◌-◌, refl, sym, subst, ◌∙◌, arith}
use Rattle.std.proofs.lemmas.Result.{on_ok_weaker}
use Rattle.wac_graph_causes.specs.declared.order.Order.{Order}
use Rattle.wac_graph_causes.specs.Orders.{Puts}
use Rattle.wac_graph_causes.proofs.Orders.{put_behind}
use Rattle.wac_graph_causes.proofs.order.+putting.Goals as goal

pub put-returns : goal.put-returns
put-returns t c =
    let s = c.args.sources in
    let d = c.args.depth in
    let n = c.args.name.now in
    let old = c.args.order.now in
    let begun : Order = record { begun = c.begin.new.begun; written = old.written } in
    let new : Order = record { begun = c.put_all.new.order.begun; written = c.push_name.new.names } in
    let deep : suc (d - 1) ≡ d = omega (arith, c.if-depth-eq0.false) in
    on_ok_weaker c.push_name.result
    (λ f. subst (λ k. Puts s k n old new) deep
    (put_behind s (d - 1) n old begun c.put_all.new.order new (sym c.if-contains.ensures) c.in_ok-begin.ensures refl c.deref.result.now (c.deref.ensures.value ∙ c.in_ok-needs.ensures) c.in_ok-put_all.ensures refl f))
    c.push_name.ensures
