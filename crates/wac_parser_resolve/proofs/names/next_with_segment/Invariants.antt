use Rattle.std.proofs.Common.{◌≡◌, filter, drop}
use Rattle.wac_types_base.specs.Entries.{texts_of}
use Rattle.wac_parser_resolve.specs.Matching.{has_segment}
use Rattle.wac_parser_resolve.proofs.names.next_with_segment.Given as goal

-- none so far
abbrev pub invariant-loop-at : goal.invariant-loop-at
invariant-loop-at l = filter (has_segment l.text) (drop l.at (texts_of l.names)) ≡ filter (has_segment l.text) (drop l.low (texts_of l.names))
