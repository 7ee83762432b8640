use Rattle.std.proofs.Common.{◌++◌, sym, ap, ◌∙◌}
use Rattle.std.proofs.lemmas.List.{map-id}
use Rattle.std.proofs.lemmas.Iterator.Adapters.{YieldsList-from_vec}
use Rattle.std.proofs.lemmas.Iterator.Consumers.{YieldsList-end}
use Rattle.wac_graph_asks.proofs.asks.add_asks.Goals as goal

pub returns : goal.returns
returns c =
    let gives = c.into_iter-ask-iterator.ensures.into_iter_gives in
    let t =
    YieldsList-end (YieldsList-from_vec {s = c.into_iter-ask-iterator.result} c.args.asks.items gives.0 (gives.1 ∙ c.args.asks.ok.0)) c.loop-ask.yielded c.loop-ask.ask-iterator c.loop-ask.yielded_by c.next.result c.next.new.self c.in-None.is
    c.next.ensures.steps in
    c.loop-ask.invariant ∙ ap (λ l. c.args.all.now.items ++ l) (sym (map-id c.loop-ask.yielded) ∙ t.0)
