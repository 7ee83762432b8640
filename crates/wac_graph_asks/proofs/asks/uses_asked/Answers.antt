use Rattle.std.proofs.Common.{sym, subst}
use Rattle.wac_graph_asks.specs.AsksIn.{asks_in}
use Rattle.wac_graph_asks.specs.AskedUses.{AreUses, AddsUses, uses_of_asks, uses_of_copies}
use Rattle.wac_graph_asks.proofs.Uses.{are_uses}
use Rattle.wac_graph_asks.proofs.asks.uses_asked.Goals as goal

pub returns : goal.returns
returns c =
    let types = c.args.asked.now.types in
    subst (λ v. AreUses c.args.asked.now v.items) (sym c.into_asks.ensures)
    (are_uses c.args.asked.now (record { asks = c.new.result; seen = c.new-2.result }) c.ask_uses_of_asks.new.all c.ask_uses_of_definitions.new.all c.new.ensures.items
    (subst (λ l. AddsUses types (record { asks = c.new.result; seen = c.new-2.result }) c.ask_uses_of_asks.new.all (uses_of_asks (asks_in types l))) c.deref.ensures.value c.in_ok-ask_uses_of_asks.ensures)
    (subst (λ l. AddsUses types c.ask_uses_of_asks.new.all c.ask_uses_of_definitions.new.all (uses_of_copies types l)) c.deref-2.ensures.value c.in_ok-ask_uses_of_definitions.ensures))
