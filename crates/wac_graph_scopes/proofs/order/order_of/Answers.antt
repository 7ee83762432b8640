use Rattle.std.proofs.Common.{◌++◌, length, sym, ap, ◌∙◌, subst}
use Rattle.std.proofs.lemmas.Result.{IfOk-weaker}
use Rattle.wac_graph_scopes.specs.Orders.{IsOrder, AreTurns}
use Rattle.wac_graph_scopes.proofs.OrderLaws.{sources_first}
use Rattle.std.proofs.lemmas.List.{length-map}
use Rattle.wac_graph_scopes.specs.Behind.{lists_of}
use Rattle.wac_graph_scopes.specs.UsePlaces.{HaveNeeds}
use Rattle.wac_graph_scopes.proofs.UsePlaceLaws.{sources_behind}
use Rattle.wac_graph_scopes.proofs.order.order_of.Goals as goal

pub returns-clause-order : goal.returns-clause-order
returns-clause-order c =
    let len = ap (λ ts. length ts.items) c.in_ok-order.ensures.turns ∙ c.in_ok-turns.ensures.len in
    IfOk-weaker c.put_sources_and_others.result _ _ (λ o is. subst (λ n. IsOrder n o.sources.items o.others.items) len is) c.put_sources_and_others.ensures.order

pub returns-clause-sources : goal.returns-clause-sources
returns-clause-sources c =
    let turns = c.in_ok-order.order.turns.items in
    let same = c.in_ok-order.ensures.turns in
    let len = ap (λ ts. length ts.items) same ∙ c.in_ok-turns.ensures.len in
    let are = subst (λ ts. AreTurns c.args.all ts.items) (sym same) c.in_ok-turns.ensures.turns in
    IfOk-weaker c.put_sources_and_others.result _ _ (λ o first. sources_first c.args.all turns o.sources.items len are first) c.put_sources_and_others.ensures.early

pub put_sources_and_others-requires-clause-needs : goal.put_sources_and_others-requires-clause-needs
put_sources_and_others-requires-clause-needs c =
    ap (λ ns. length ns.items) c.in_ok-order.ensures.needs ∙ c.in_ok-needs.ensures.len ∙ sym c.in_ok-turns.ensures.len ∙ sym (ap (λ ts. length ts.items) c.in_ok-order.ensures.turns)

pub returns-clause-behind : goal.returns-clause-behind
returns-clause-behind c =
    let a = c.args.all in
    let found = c.args.found.now in
    let order = c.in_ok-order.order in
    let same = c.in_ok-order.ensures.needs in
    let many = length-map order.needs.items _ ∙ ap (λ ns. length ns.items) same ∙ c.in_ok-needs.ensures.len in
    let have = subst (λ ns. HaveNeeds a found (lists_of ns.items)) (sym same) c.in_ok-needs.ensures.needs in
    IfOk-weaker c.put_sources_and_others.result _ _
    (λ o behind. sources_behind a found (lists_of order.needs.items) (o.sources.items ++ o.others.items) many c.see_acyclic.ensures have behind) c.put_sources_and_others.ensures.behind
