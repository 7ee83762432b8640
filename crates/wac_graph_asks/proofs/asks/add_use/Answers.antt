use Rattle.std.proofs.Common.{◌++◌, refl, sym, ap, ◌∙◌}
use Rattle.std.proofs.lemmas.List.{append-nil}
use Rattle.wac_graph_asks.proofs.UseSteps.{was_seen, is_seen, use_named, use_unnamed}
use Rattle.wac_graph_asks.proofs.asks.add_use.Goals as goal

pub returns-then-not-is_new : goal.returns-then-not-is_new
returns-then-not-is_new c =
    let w = was_seen c.args.id c.args.all.now.seen.keys c.insert.new.self.keys c.in_ok-is_new.is_new c.in_ok-is_new.ensures.added c.in_ok-is_new.ensures.keys c.if-not-is_new.true in
    (refl, w.0, w.1)

pub returns-in_ok-push_ask : goal.returns-in_ok-push_ask
returns-in_ok-push_ask c = (
  c.in_ok-push_ask.ensures ∙ ap (λ l. c.args.all.now.asks.items ++ l) (use_named c.args.types.now c.interface.ensures.acyclic c.args.by c.args.id c.interface.result.now c.interface.ensures.entry c.interface.ensures.own c.as_str.result.now c.in-Some.name c.as_str.ensures c.in-Some.is),
  is_seen c.args.id c.args.all.now.seen.keys c.insert.new.self.keys c.in_ok-is_new.is_new c.in_ok-is_new.ensures.added c.in_ok-is_new.ensures.keys c.if-not-is_new.false,
)

pub returns-in_default : goal.returns-in_default
returns-in_default c = (
  sym (append-nil c.args.all.now.asks.items) ∙ ap (λ l. c.args.all.now.asks.items ++ l) (use_unnamed c.args.types.now c.interface.ensures.acyclic c.args.by c.args.id c.interface.result.now c.interface.ensures.entry c.interface.ensures.own c.in_default.is),
  is_seen c.args.id c.args.all.now.seen.keys c.insert.new.self.keys c.in_ok-is_new.is_new c.in_ok-is_new.ensures.added c.in_ok-is_new.ensures.keys c.if-not-is_new.false,
)
