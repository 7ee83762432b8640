use Rattle.std.proofs.Common.{Some, sym, ap, ◌∙◌}
use Rattle.wac_graph_asks.proofs.FirstNames.{was_named, is_named}
use Rattle.wac_graph_asks.proofs.asks.name_first.Goals as goal

pub returns-then-contains_key : goal.returns-then-contains_key
returns-then-contains_key c = was_named c.args.names.now.entries c.args.node c.args.name.now (sym c.contains_key.ensures ∙ c.if-contains_key.true)

pub returns : goal.returns
returns c =
    is_named c.args.names.now.entries c.insert.new.self.entries c.args.node c.args.name.now (sym c.contains_key.ensures ∙ c.if-contains_key.false) (c.in_ok-insert.ensures.updates.1 ∙ ap Some (c.new-name.ensures ∙ c.in_ok-from_str.ensures.ok))
    c.in_ok-insert.ensures.updates.2
