use Rattle.std.proofs.Common.{◌≡◌, ◌-◌, length, drop}
use Rattle.std.specs.Str.{chars, IsCharBoundary}
use Rattle.wac_parser_lexer.specs.Refused.{refused_from}
use Rattle.wac_parser_lexer.proofs.refused.first_refused.Given as goal

abbrev pub invariant-text : goal.invariant-text
invariant-text l = record {
  same : refused_from l.at (chars (drop l.at l.source)) ≡ refused_from 0 (chars l.source);
  place : IsCharBoundary l.source l.at;
}

abbrev pub decreases-text : goal.decreases-text
decreases-text l = length l.source - l.at
