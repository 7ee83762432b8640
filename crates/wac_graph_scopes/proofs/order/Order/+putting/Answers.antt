use Rattle.std.proofs.Common.{◌≡◌, ◌-◌, suc, true, length, slice_set, sym, ap, ◌∙◌, subst, arith}
use Rattle.std.specs.Prelude.{option_to_list}
use Rattle.std.proofs.lemmas.Result.{on_ok_weaker}
use Rattle.std.proofs.Math.ListN.{length-set}
use Rattle.wac_types_base.proofs.Loops.{take-all}
use Rattle.wac_graph_scopes.specs.Orders.{IsBegun, Puts, PutsEach}
use Rattle.wac_graph_scopes.specs.Behind.{lists_of, needs_at}
use Rattle.wac_graph_scopes.proofs.OrderLaws.{Puts-trans, puts_last, begun_here, begun_kept, begun_only}
use Rattle.wac_graph_scopes.proofs.PuttingLaws.{puts_now, puts_next}
use Rattle.wac_graph_scopes.proofs.order.Order.+putting.Goals as goal

pub put-returns-clause-puts : goal.put-returns-clause-puts
put-returns-clause-puts t c =
    let old = c.args.self.now.begun.items in
    let mid = c.begin.new.self.begun.items in
    let ordered = c.put_needs.new.self.order.items in
    let b = c.begin.ensures.begun c.if-not-begin.false in
    let same : mid ≡ slice_set old c.args.at true = b.2 in
    puts_last old mid c.put_needs.new.self.begun.items c.args.self.now.order.items ordered c.push.new.self.items c.args.at b.1
    (subst (λ l. IsBegun l c.args.at) (sym same) (begun_here old c.args.at b.0)) (ap (λ l. length l) same ∙ length-set old c.args.at true)
    (λ k h. subst (λ l. IsBegun l k) (sym same) (begun_kept old c.args.at k h)) (λ k h. begun_only old c.args.at k (subst (λ l. IsBegun l k) same h))
    (subst (λ l. Puts mid c.put_needs.new.self.begun.items l ordered) c.begin.ensures.order c.in_ok-put_needs.ensures.puts) c.in_ok-push.ensures.items

pub put-returns-clause-begun : goal.put-returns-clause-begun
put-returns-clause-begun t c d lt =
    let old = c.args.self.now.begun.items in
    let b = c.begin.ensures.begun c.if-not-begin.false in
    c.in_ok-put_needs.ensures.puts.kept c.args.at (subst (λ l. IsBegun l c.args.at) (sym b.2) (begun_here old c.args.at b.0))

pub put_needs-loop-which-preserved : goal.put_needs-loop-which-preserved
put_needs-loop-which-preserved t c = record {
  turns = c.in_ok-put_need.ensures.turns ∙ c.loop-which.invariant.turns;
  needs = c.in_ok-put_need.ensures.needs ∙ c.loop-which.invariant.needs;
  exactly = puts_next (lists_of c.args.self.now.needs.items) (lists_of c.loop-which.self.needs.items) c.args.self.now.begun.items c.loop-which.self.begun.items c.put_need.new.self.begun.items c.args.self.now.order.items c.loop-which.self.order.items c.put_need.new.self.order.items
      (ap lists_of c.loop-which.invariant.needs) c.loop-which.invariant.puts.len c.args.depth c.args.at c.loop-which.which c.loop-which.invariant.exactly c.in_ok-put_need.ensures.exactly;
  puts = Puts-trans c.args.self.now.begun.items c.loop-which.self.begun.items c.put_need.new.self.begun.items c.args.self.now.order.items c.loop-which.self.order.items c.put_need.new.self.order.items c.loop-which.invariant.puts c.in_ok-put_need.ensures.puts;
}

pub put-returns-clause-exactly : goal.put-returns-clause-exactly
put-returns-clause-exactly t c =
    let old = c.args.self.now in
    let mid = c.begin.new.self in
    let deep : suc (c.args.depth - 1) ≡ c.args.depth = omega (arith, c.if-depth-eq0.false) in
    puts_now (lists_of old.needs.items) (lists_of mid.needs.items) old.begun.items mid.begun.items c.put_needs.new.self.begun.items old.order.items mid.order.items c.put_needs.new.self.order.items
    (ap lists_of c.begin.ensures.needs) (c.args.depth - 1) c.args.depth c.args.at c.push.new.self.items deep (c.begin.ensures.begun c.if-not-begin.false) c.begin.ensures.order c.in_ok-put_needs.ensures.exactly c.in_ok-push.ensures.items

pub put_need-returns-in-Some-clause-exactly : goal.put_need-returns-in-Some-clause-exactly
put_need-returns-in-Some-clause-exactly t c =
    let old = c.args.self.now in
    let new = c.put.new.self in
    on_ok_weaker c.put.result
    (λ f. subst (λ o. PutsEach (lists_of old.needs.items) c.args.depth (option_to_list o) old.begun.items new.begun.items old.order.items new.order.items) (sym c.in-Some.is ∙ c.need.ensures) f)
    c.put.ensures.exactly

pub put_needs-returns-clause-exactly : goal.put_needs-returns-clause-exactly
put_needs-returns-clause-exactly t c =
    let old = c.args.self.now in
    let new = c.loop-which.self in
    let xs = needs_at (lists_of old.needs.items) c.args.at in
    subst (λ l. PutsEach (lists_of old.needs.items) c.args.depth l old.begun.items new.begun.items old.order.items new.order.items)
    (take-all xs c.loop-which.which (omega (arith, c.loop-which-test.false, c.need_count-which-end.ensures))) c.loop-which.invariant.exactly
