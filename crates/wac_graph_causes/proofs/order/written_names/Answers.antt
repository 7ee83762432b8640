use Rattle.std.proofs.Common.{length, sym, ap, ◌∙◌, arith}
use Rattle.wac_graph_causes.specs.declared.order.Order.{Order}
use Rattle.wac_graph_causes.proofs.Orders.{all_put}
use Rattle.wac_graph_causes.proofs.order.written_names.Goals as goal

pub returns : goal.returns
returns c =
    let begun : Order = record { begun = c.new.result; written = c.new-2.result } in
    let same = ap length (sym c.deref.ensures.value) in
    all_put c.args.sources c.len.result c.deref.result.now begun c.put_all.new.order c.in_ok-put_all.ensures c.new.ensures c.new-2.ensures.items (omega (arith, c.len.ensures, c.in_ok-names.names.ok, same)) (c.deref.ensures.value ∙ c.in_ok-names.ensures)
