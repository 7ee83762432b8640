use Rattle.std.proofs.Common.{codes, refl, ◌∙◌}
use Rattle.serde_json.specs.Written.{compact_text}
use Rattle.wac_parser_print.specs.Texts.{word}
use Rattle.wac_parser_print.proofs.Adding.{joined_start, joined_step, joined_end, gap_more}
use Rattle.wac_parser_json.proofs.Writing.{whole_array}
use Rattle.wac_parser_json.proofs.parts.array.Goals as goal

pub loop-part-init : goal.loop-part-init
loop-part-init g c = record { same_sink = refl; between = refl; added = joined_start g.T.Part.plain (codes ",") (λ x. word (compact_text (g.T.Part.json x))) _ }

pub loop-part-preserved : goal.loop-part-preserved
loop-part-preserved g c = record {
  same_sink = c.write.ensures.same_sink ∙ c.word-in-loop-part.ensures.same_sink ∙ c.loop-part.invariant.same_sink;
  between = gap_more c.loop-part.part-index (codes ",");
  added = joined_step g.T.Part.plain (codes ",") _ (λ x. word (compact_text (g.T.Part.json x))) c.deref-part-items.result.now c.loop-part.part-index c.part-item.result c.loop-part-test.true c.part-item.is c.loop-part.invariant.between c.loop-part.invariant.added c.word-in-loop-part.ensures.adds c.write.ensures.adds;
}

pub returns : goal.returns
returns g c =
    let items = joined_end g.T.Part.plain (codes ",") (λ x. word (compact_text (g.T.Part.json x))) c.deref-part-items.result.now c.loop-part.part-index c.loop-part-test.false c.loop-part.invariant.added in
    rw (← c.deref-part-items.ensures.value) (whole_array g.T.Part.json _ c.word.ensures c.loop-part.invariant.same_sink items c.word-2.ensures)
