use Rattle.std.proofs.Common.{ℕ, Vec, Global, sym, ap, subst}
use Rattle.wac_graph_scopes.specs.Orders.{Puts}
use Rattle.wac_graph_scopes.proofs.OrderLaws.{Puts-trans}
use Rattle.wac_graph_scopes.specs.Orders.{PutsTurns, has_turn}
use Rattle.wac_graph_scopes.specs.Behind.{lists_of}
use Rattle.wac_graph_scopes.proofs.PuttingLaws.{turns_both}
use Rattle.wac_graph_scopes.proofs.order.Order.put_both.Goals as goal

pub returns-clause-puts : goal.returns-clause-puts
returns-clause-puts c =
    let old = c.args.self.now in
    let mid = c.put_all.new.self in
    let new = c.put_all-2.new.self in
    subst (λ v. Puts old.begun.items new.begun.items old.order.items v) (ap (λ (v : Vec ℕ Global). v.items) (sym c.replace.ensures.value))
    (Puts-trans old.begun.items mid.begun.items new.begun.items old.order.items mid.order.items new.order.items c.in_ok-put_all.ensures.puts c.in_ok-put_all-2.ensures.puts)

pub returns-clause-exactly : goal.returns-clause-exactly
returns-clause-exactly c =
    let old = c.args.self.now in
    let mid = c.put_all.new.self in
    let new = c.put_all-2.new.self in
    let a = c.in_ok-put_all.ensures in
    let b = c.in_ok-put_all-2.ensures in
    subst (λ v. PutsTurns c.args.first c.args.second old new.begun.items v) (ap (λ (v : Vec ℕ Global). v.items) (sym c.replace.ensures.value))
    (turns_both (lists_of old.needs.items) (lists_of mid.needs.items) old.begun.items mid.begun.items new.begun.items old.order.items mid.order.items new.order.items (ap lists_of a.needs) a.puts.len
    (has_turn old.turns.items c.args.first) (has_turn old.turns.items c.args.second) (has_turn mid.turns.items c.args.second) (ap (λ ts. has_turn ts c.args.second) a.turns) a.exactly b.exactly)
