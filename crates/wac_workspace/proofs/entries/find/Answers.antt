use Rattle.wac_workspace.proofs.Searching.{stands_here, none_more, never}
use Rattle.wac_workspace.specs.declared.entries.Entry.{Entry}
use Rattle.std.proofs.Common.{◌≡◌}
use Rattle.wac_workspace.proofs.entries.find.Goals as goal

pub loop-entry-preserved : goal.loop-entry-preserved
loop-entry-preserved c = none_more _ c.args.entries.now c.loop-entry.entry-index c.entry-item.result c.loop-entry-test.true c.entry-item.is c.loop-entry.invariant (λ e. never (c.if-has_key.ensures.1 e))

pub returns-then-has_key-clause-found : goal.returns-then-has_key-clause-found
returns-then-has_key-clause-found c = (
  stands_here (λ (x : Entry). x ≡ x) c.args.entries.now c.loop-entry.entry-index c.entry-item.result c.loop-entry-test.true c.entry-item.is,
  c.has_key.ensures.0 c.if-has_key.true,
)
