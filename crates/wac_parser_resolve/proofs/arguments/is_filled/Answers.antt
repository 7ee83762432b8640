use Rattle.std.proofs.Common.{sym, ◌∙◌}
use Rattle.wac_parser_resolve.proofs.Filling.{fill_here, fill_past}
use Rattle.wac_parser_resolve.proofs.arguments.is_filled.Goals as goal

pub returns-then-is_fill : goal.returns-then-is_fill
returns-then-is_fill c =
    sym (sym c.loop-argument.invariant ∙ fill_here c.deref-argument-items.result.now c.loop-argument.argument-index c.argument-item.result c.loop-argument-test.true c.argument-item.is (sym c.is_fill.ensures ∙ c.if-is_fill.true))

pub loop-argument-preserved : goal.loop-argument-preserved
loop-argument-preserved c =
    fill_past c.deref-argument-items.result.now c.loop-argument.argument-index c.argument-item.result c.loop-argument-test.true c.argument-item.is (sym c.is_fill.ensures ∙ c.if-is_fill.false) ∙ c.loop-argument.invariant
