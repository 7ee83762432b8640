use Rattle.std.proofs.Common.{◌∷◌, [], refl}
use Rattle.wac_parser_print.specs.Texts.{line_end, ◌>>◌}
use Rattle.wac_parser_print.proofs.Adding.{and_then, joined_start, joined_step, joined_end, gap_more}
use Rattle.wac_parser_print.proofs.bodies.add_paragraphs.Goals as goal

pub loop-entry-init : goal.loop-entry-init
loop-entry-init g c = record { between = refl; added = joined_start g.T.Entry.view (10 ∷ []) (λ x. g.T.Entry.shown c.args.level x >> line_end) _ }

pub loop-entry-preserved : goal.loop-entry-preserved
loop-entry-preserved g c = record {
  between = gap_more c.loop-entry.entry-index (10 ∷ []);
  added = joined_step g.T.Entry.view (10 ∷ []) _ (λ x. g.T.Entry.shown c.args.level x >> line_end) c.deref-entry-items.result.now c.loop-entry.entry-index c.entry-item.result c.loop-entry-test.true c.entry-item.is c.loop-entry.invariant.between c.loop-entry.invariant.added c.word.ensures (and_then c.add.ensures c.line_end.ensures);
}

pub returns : goal.returns
returns g c = rw (← c.deref-entry-items.ensures.value) (joined_end g.T.Entry.view (10 ∷ []) (λ x. g.T.Entry.shown c.args.level x >> line_end) c.deref-entry-items.result.now c.loop-entry.entry-index c.loop-entry-test.false c.loop-entry.invariant.added)
