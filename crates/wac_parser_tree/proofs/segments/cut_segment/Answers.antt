use Rattle.std.proofs.Common.{◌∙◌, ap, lit<, Some, None}
use Rattle.std.proofs.lemmas.Str.Pattern.{split_parts}
use Rattle.wac_parser_tree.specs.Segments.{between_slashes}
use Rattle.wac_parser_tree.proofs.SegmentLaws.{one_text, first_text}
use Rattle.wac_parser_tree.proofs.segments.cut_segment.Goals as goal

pub returns-in-Some : goal.returns-in-Some
returns-in-Some c =
    let parts = split_parts 47 c.args.text.now (Some (c.in-Some.first, c.in-Some.rest)) c.in-Some.ensures.cases (lit< tt) in
    ap between_slashes parts.0 ∙ first_text c.in-Some.first.now c.in-Some.rest.now parts.1

pub returns-in-None : goal.returns-in-None
returns-in-None c = one_text c.args.text.now (split_parts 47 c.args.text.now None c.in-None.ensures.cases (lit< tt))
