use Rattle.std.proofs.Common.{true≢false, sym, ◌∙◌}
use Rattle.wac_graph_scopes.proofs.UsePlaceLaws.{source_added, source_left}
use Rattle.wac_graph_scopes.proofs.order.add_source_before.Goals as goal

pub returns-in_ok-push : goal.returns-in_ok-push
returns-in_ok-push c =
    source_added c.args.all c.args.order.now.keys c.args.at c.args.used c.args.needs.now.items c.push.new.self.items (c.is_source_before.ensures.0 c.if-is_source_before.true) c.in_ok-push.ensures.items

pub returns-else-is_source_before : goal.returns-else-is_source_before
returns-else-is_source_before c =
    source_left c.args.all c.args.order.now.keys c.args.at c.args.used c.args.needs.now.items (λ s. true≢false (sym (c.is_source_before.ensures.1 s) ∙ c.if-is_source_before.false))
