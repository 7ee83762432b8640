use Rattle.std.proofs.Common.{refl}
use Rattle.wac_workspace.proofs.Searching.{found_here, none_more, none_of_all, never}
use Rattle.wac_workspace.proofs.entries.holds_handed.Goals as goal

pub returns-then-was_handed : goal.returns-then-was_handed
returns-then-was_handed c = (λ t. found_here _ c.args.entries.now c.loop-entry.entry-index c.entry-item.result c.loop-entry-test.true c.entry-item.is (c.was_handed.ensures.0 c.if-was_handed.true), λ e. refl)

pub loop-entry-preserved : goal.loop-entry-preserved
loop-entry-preserved c = none_more _ c.args.entries.now c.loop-entry.entry-index c.entry-item.result c.loop-entry-test.true c.entry-item.is c.loop-entry.invariant (λ e. never (c.if-was_handed.ensures.1 e))

pub returns : goal.returns
returns c = (λ t. absurd (never t), λ e. absurd (none_of_all _ c.args.entries.now c.loop-entry.entry-index c.loop-entry-test.false c.loop-entry.invariant e))
