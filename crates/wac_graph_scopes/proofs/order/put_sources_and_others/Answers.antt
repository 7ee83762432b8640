use Rattle.std.proofs.Common.{ℕ, [], ◌++◌, length, ap, ◌∙◌, slice_get, sym, subst}
use Rattle.std.proofs.lemmas.List.{length-map}
use Rattle.wac_graph_scopes.specs.Orders.{Puts, PutsEach, turn_places}
use Rattle.wac_graph_scopes.specs.Behind.{lists_of}
use Rattle.wac_graph_scopes.specs.declared.order.Turn.{Turn}
use Rattle.wac_graph_scopes.proofs.OrderLaws.{order_made, early_made}
use Rattle.wac_graph_scopes.proofs.PuttingLaws.{both_behind}
use Rattle.wac_graph_scopes.proofs.order.put_sources_and_others.Goals as goal

pub returns-clause-order : goal.returns-clause-order
returns-clause-order c =
    let old = c.args.order.now in
    let mid = c.put_both.new.self in
    let new = c.put_both-2.new.self in
    let a = c.in_ok-sources.ensures in
    let b = c.in_ok-others.ensures in
    order_made old.turns.items old.begun.items mid.begun.items new.begun.items c.in_ok-sources.sources.items c.in_ok-others.others.items c.requires.len c.requires.none
    (subst (λ l. Puts old.begun.items mid.begun.items l c.in_ok-sources.sources.items) c.requires.empty a.puts) (subst (λ l. Puts mid.begun.items new.begun.items l c.in_ok-others.others.items) a.none b.puts)
    a.first a.second (λ k e lt. b.first k (ap (λ l. slice_get l k) a.turns ∙ e) lt) (λ k e lt. b.second k (ap (λ l. slice_get l k) a.turns ∙ e) lt)

pub returns-clause-early : goal.returns-clause-early
returns-clause-early c =
    let old = c.args.order.now in
    let mid = c.put_both.new.self in
    let new = c.put_both-2.new.self in
    let a = c.in_ok-sources.ensures in
    let b = c.in_ok-others.ensures in
    early_made old.turns.items old.begun.items mid.begun.items new.begun.items c.in_ok-sources.sources.items c.in_ok-others.others.items c.requires.len c.requires.none
    (subst (λ l. Puts old.begun.items mid.begun.items l c.in_ok-sources.sources.items) c.requires.empty a.puts) (subst (λ l. Puts mid.begun.items new.begun.items l c.in_ok-others.others.items) a.none b.puts)
    a.first a.second (λ k e lt. b.first k (ap (λ l. slice_get l k) a.turns ∙ e) lt) (λ k e lt. b.second k (ap (λ l. slice_get l k) a.turns ∙ e) lt)

pub returns-clause-behind : goal.returns-clause-behind
returns-clause-behind c =
    let old = c.args.order.now in
    let mid = c.put_both.new.self in
    let new = c.put_both-2.new.self in
    let a = c.in_ok-sources.ensures in
    let b = c.in_ok-others.ensures in
    let needs = lists_of old.needs.items in
    let count = length old.begun.items in
    let firsts = turn_places old.turns.items Turn.Fresh count ++ turn_places old.turns.items Turn.Interfaces count in
    let places = λ (k : ℕ). turn_places mid.turns.items Turn.Types k ++ turn_places mid.turns.items Turn.Others k in
    let f = subst (λ l. PutsEach needs count firsts old.begun.items mid.begun.items l c.in_ok-sources.sources.items) c.requires.empty a.exactly in
    let g = subst (λ l. PutsEach (lists_of mid.needs.items) (length mid.begun.items) (places (length mid.begun.items)) mid.begun.items new.begun.items l c.in_ok-others.others.items) a.none b.exactly in
    let h = subst (λ ns. PutsEach ns (length mid.begun.items) (places (length mid.begun.items)) mid.begun.items new.begun.items [] c.in_ok-others.others.items) (ap lists_of a.needs) g in
    both_behind needs firsts old.begun.items mid.begun.items c.in_ok-sources.sources.items (c.requires.len ∙ sym (length-map old.needs.items _ ∙ c.requires.needs)) c.requires.none (places (length mid.begun.items)) new.begun.items c.in_ok-others.others.items f h a.puts.len
