use Rattle.std.proofs.Common.{codes, refl, ◌∙◌}
use Rattle.serde_json.specs.Written.{compact_text}
use Rattle.wac_parser_tree.specs.Views.{view_statement}
use Rattle.wac_parser_print.specs.Texts.{word}
use Rattle.wac_parser_print.specs.Values as values
use Rattle.wac_parser_print.proofs.Adding.{joined_start, joined_step, joined_end, gap_more}
use Rattle.wac_parser_json.proofs.Writing.{whole_array}
use Rattle.wac_parser_json.proofs.statements.statements.Goals as goal

pub loop-item-init : goal.loop-item-init
loop-item-init g c = record { same_sink = refl; between = refl; added = joined_start view_statement (codes ",") (λ x. word (compact_text (values.statement x))) _ }

pub loop-item-preserved : goal.loop-item-preserved
loop-item-preserved g c = record {
  same_sink = c.statement.ensures.same_sink ∙ c.word-in-loop-item.ensures.same_sink ∙ c.loop-item.invariant.same_sink;
  between = gap_more c.loop-item.item-index (codes ",");
  added = joined_step view_statement (codes ",") _ (λ x. word (compact_text (values.statement x))) c.deref-item-items.result.now c.loop-item.item-index c.item-item.result c.loop-item-test.true c.item-item.is c.loop-item.invariant.between c.loop-item.invariant.added c.word-in-loop-item.ensures.adds c.statement.ensures.adds;
}

pub returns : goal.returns
returns g c =
    let items = joined_end view_statement (codes ",") (λ x. word (compact_text (values.statement x))) c.deref-item-items.result.now c.loop-item.item-index c.loop-item-test.false c.loop-item.invariant.added in
    rw (← c.deref-item-items.ensures.value) (whole_array values.statement _ c.word.ensures c.loop-item.invariant.same_sink items c.word-2.ensures)
