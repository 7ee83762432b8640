use Rattle.std.proofs.Common.{Some, None}
use Rattle.wac_parser_resolve.proofs.Matching.{segment_some, segment_none, split_last}
use Rattle.wac_parser_resolve.proofs.names.last_segment.Goals as goal

pub returns-in-Some : goal.returns-in-Some
returns-in-Some c =
    segment_some c.args.name.now c.in-Some.last.now c.before_version.result.now (split_last c.args.name.now (Some (c.in-Some._front, c.in-Some.last)) c.in-Some.ensures.cases) c.before_version.ensures

pub returns-in-None : goal.returns-in-None
returns-in-None c = segment_none c.args.name.now (split_last c.args.name.now None c.in-None.ensures.cases)
