use Rattle.std.proofs.Common.{◌≡◌, ◌+◌, ◌-◌, ◌≤◌, length, drop}
use Rattle.std.specs.List.{prefix_len}
use Rattle.wac_parser_lexer.specs.Plain.{is_plain}
use Rattle.wac_parser_lexer.proofs.refused.plain_len.Given as goal

abbrev pub invariant-lanes : goal.invariant-lanes
invariant-lanes l = record {
  value : prefix_len is_plain l.z ≡ l.at + prefix_len is_plain (drop l.at l.z);
  within : l.at ≤ length l.z;
}

abbrev pub decreases-lanes : goal.decreases-lanes
decreases-lanes l = length l.z - l.at
