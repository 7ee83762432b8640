use Rattle.wac_parser_print.specs.Texts.{ended}
use Rattle.wac_parser_print.proofs.Adding.{and_then, each_start, each_step, each_end}
use Rattle.wac_parser_print.proofs.bodies.add_lines.Goals as goal

pub loop-entry-init : goal.loop-entry-init
loop-entry-init g c = each_start g.T.Entry.view (λ y. ended (g.T.Entry.shown c.args.level y)) _

pub loop-entry-preserved : goal.loop-entry-preserved
loop-entry-preserved g c = each_step g.T.Entry.view (λ y. ended (g.T.Entry.shown c.args.level y)) c.deref-entry-items.result.now c.loop-entry.entry-index c.entry-item.result c.loop-entry-test.true c.entry-item.is c.loop-entry.invariant (and_then c.add.ensures c.end_line.ensures)

pub returns : goal.returns
returns g c = rw (← c.deref-entry-items.ensures.value) (each_end g.T.Entry.view (λ y. ended (g.T.Entry.shown c.args.level y)) c.deref-entry-items.result.now c.loop-entry.entry-index c.loop-entry-test.false c.loop-entry.invariant)
