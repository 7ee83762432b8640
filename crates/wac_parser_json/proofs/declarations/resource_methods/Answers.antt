use Rattle.std.proofs.Common.{codes, refl, ◌∙◌}
use Rattle.serde_json.specs.Written.{compact_text}
use Rattle.wac_parser_tree.specs.Views.{view_resource_method}
use Rattle.wac_parser_print.specs.Texts.{word}
use Rattle.wac_parser_print.specs.Values as values
use Rattle.wac_parser_print.proofs.Adding.{joined_start, joined_step, joined_end, gap_more}
use Rattle.wac_parser_json.proofs.Writing.{whole_array}
use Rattle.wac_parser_json.proofs.declarations.resource_methods.Goals as goal

pub loop-member-init : goal.loop-member-init
loop-member-init g c = record { same_sink = refl; between = refl; added = joined_start view_resource_method (codes ",") (λ x. word (compact_text (values.resource_method x))) _ }

pub loop-member-preserved : goal.loop-member-preserved
loop-member-preserved g c = record {
  same_sink = c.resource_method.ensures.same_sink ∙ c.word-in-loop-member.ensures.same_sink ∙ c.loop-member.invariant.same_sink;
  between = gap_more c.loop-member.member-index (codes ",");
  added = joined_step view_resource_method (codes ",") _ (λ x. word (compact_text (values.resource_method x))) c.deref-member-items.result.now c.loop-member.member-index c.member-item.result c.loop-member-test.true c.member-item.is c.loop-member.invariant.between c.loop-member.invariant.added c.word-in-loop-member.ensures.adds c.resource_method.ensures.adds;
}

pub returns : goal.returns
returns g c =
    let items = joined_end view_resource_method (codes ",") (λ x. word (compact_text (values.resource_method x))) c.deref-member-items.result.now c.loop-member.member-index c.loop-member-test.false c.loop-member.invariant.added in
    rw (← c.deref-member-items.ensures.value) (whole_array values.resource_method _ c.word.ensures c.loop-member.invariant.same_sink items c.word-2.ensures)
