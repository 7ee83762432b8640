use Rattle.std.proofs.Common.{◌≡◌, drop}
use Rattle.std.specs.Option.{option_or}
use Rattle.wac_parser_resolve.specs.Said.{last_noted}
use Rattle.wac_parser_resolve.proofs.spans.Spans.of.Given as goal

-- what is noted in what is left comes before what was found
abbrev pub invariant-loop-own : goal.invariant-loop-own
invariant-loop-own l = option_or (last_noted (drop l.own-index l.own-items) l.node) l.found ≡ last_noted l.self.noted.items l.node
