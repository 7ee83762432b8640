use Rattle.std.proofs.Common.{◌≡◌, length, slice_get, ap, ◌∙◌, subst, arith}
use Rattle.wac_graph_scopes.proofs.OrderLaws.{Puts-trans, begun_next}
use Rattle.wac_graph_scopes.specs.Orders.{PutsEach, has_turn, turn_places}
use Rattle.wac_graph_scopes.specs.Behind.{lists_of}
use Rattle.wac_graph_scopes.proofs.PuttingLaws.{turn_next}
use Rattle.wac_graph_scopes.proofs.order.Order.put_all.Goals as goal

pub loop-at-preserved : goal.loop-at-preserved
loop-at-preserved c =
    let before = c.loop-at.invariant in
    let now = c.in_ok-put_at.ensures in
    record {
      turns = now.turns ∙ before.turns;
      needs = now.needs ∙ before.needs;
      exactly = turn_next (lists_of c.args.self.now.needs.items) (lists_of c.loop-at.self.needs.items) c.args.self.now.begun.items c.loop-at.self.begun.items c.put_at.new.self.begun.items c.args.self.now.order.items c.loop-at.self.order.items c.put_at.new.self.order.items
          (ap lists_of before.needs) before.puts.len (has_turn c.args.self.now.turns.items c.args.turn) (has_turn c.loop-at.self.turns.items c.args.turn) c.loop-at.at (ap (λ ts. has_turn ts c.args.turn) before.turns) before.exactly now.exactly;
      puts = Puts-trans c.args.self.now.begun.items c.loop-at.self.begun.items c.put_at.new.self.begun.items c.args.self.now.order.items c.loop-at.self.order.items c.put_at.new.self.order.items before.puts now.puts;
      begun = begun_next c.args.self.now.begun.items c.loop-at.self.begun.items c.put_at.new.self.begun.items c.args.self.now.turns.items c.args.turn c.loop-at.at before.begun now.puts.kept
          (λ e lt. now.begun (ap (λ l. slice_get l c.loop-at.at) before.turns ∙ e) (omega (arith, lt, before.puts.len)));
    }

pub returns-clause-exactly : goal.returns-clause-exactly
returns-clause-exactly c =
    let old = c.args.self.now in
    let new = c.loop-at.self in
    let count : c.loop-at.at ≡ length old.begun.items = omega (arith, c.loop-at-test.false, c.loop-at.auto.at-end, c.len-at-end.ensures) in
    subst (λ n. PutsEach (lists_of old.needs.items) (length old.begun.items) (turn_places old.turns.items c.args.turn n) old.begun.items new.begun.items old.order.items new.order.items) count c.loop-at.invariant.exactly
