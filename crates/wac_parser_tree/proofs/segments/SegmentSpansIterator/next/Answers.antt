use Rattle.std.proofs.Common.{◌∙◌, ap, sym}
use Rattle.std.specs.Option.{option_map}
use Rattle.wac_parser_tree.specs.Segments.{segments_left}
use Rattle.wac_parser_tree.proofs.SegmentLaws.{gives_first, progress}
use Rattle.wac_parser_tree.proofs.segments.SegmentSpansIterator.next.Goals as goal

pub returns-clause-steps : goal.returns-clause-steps
returns-clause-steps c =
    let is = ap (λ rest. segments_left c.self.inside.at (option_map (λ text. text.now) rest)) (sym c.in_ok-text.was) ∙ c.self.view_is in
    gives_first c.self.inside.at c.args.self.now c.in_ok-text.text.now c.cut_segment.result.0.now (option_map (λ text. text.now) c.cut_segment.result.1) c.saturating_add.result _
    c.self.invariant is c.cut_segment.ensures c.saturating_add.ensures c.saturating_add-self-inside.ensures

pub returns-clause-goes : goal.returns-clause-goes
returns-clause-goes c = progress (λ s. (s.0.now, s.1)) c.args.self.now _ _ (returns-clause-steps c)
