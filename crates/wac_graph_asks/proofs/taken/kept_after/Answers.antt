use Rattle.std.proofs.Common.{not, ap, ◌∙◌}
use Rattle.wac_graph_asks.proofs.TakingMore.{again_more, no_family}
use Rattle.wac_graph_asks.proofs.taken.kept_after.Goals as goal

pub returns-then-is_again-clause-more : goal.returns-then-is_again-clause-more
returns-then-is_again-clause-more c =
    again_more c.args.types.now c.args.before c.args.first.now c.args.ask.now c.kept_again.result (no_family c.args.before.family (c.is_none.ensures ∙ ap not c.if-is_none.true)) (c.is_again.ensures c.if-is_again.true) c.kept_again.ensures.keeps
