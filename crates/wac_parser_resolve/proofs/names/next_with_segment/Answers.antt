use Rattle.std.proofs.Common.{ap, sym, ◌∙◌}
use Rattle.wac_parser_resolve.specs.Matching.{has_segment}
use Rattle.wac_parser_resolve.proofs.Matching.{next_past, next_text}
use Rattle.wac_parser_resolve.proofs.names.next_with_segment.Goals as goal

pub returns-then-is_segment-clause-next : goal.returns-then-is_segment-clause-next
returns-then-is_segment-clause-next c =
    next_text (has_segment c.args.text.now) c.args.names.now c.args.low c.loop-at.at c.index-names-at.result c.loop-at.invariant c.loop-at-test.true c.index-names-at.is
    (ap (has_segment c.args.text.now) (sym c.as_str.ensures.value) ∙ sym c.is_segment.ensures ∙ c.if-is_segment.true)

pub loop-at-preserved : goal.loop-at-preserved
loop-at-preserved c =
    next_past (has_segment c.args.text.now) c.args.names.now c.args.low c.loop-at.at c.index-names-at.result c.loop-at.invariant c.loop-at-test.true c.index-names-at.is
    (ap (has_segment c.args.text.now) (sym c.as_str.ensures.value) ∙ sym c.is_segment.ensures ∙ c.if-is_segment.false)
