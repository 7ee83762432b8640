use Rattle.std.proofs.Common.{◌≡◌, ◌+◌, ◌-◌, ◌≤◌, length, drop}
use Rattle.std.specs.List.{prefix_len}
use Rattle.wac_parser_lexer.specs.Words.{is_lower_word_byte}
use Rattle.wac_parser_lexer.proofs.scan.lower_run.Given as goal

abbrev pub invariant-lanes : goal.invariant-lanes
invariant-lanes l = record {
  value : prefix_len is_lower_word_byte l.z ≡ l.at + prefix_len is_lower_word_byte (drop l.at l.z);
  within : l.at ≤ length l.z;
}

abbrev pub decreases-lanes : goal.decreases-lanes
decreases-lanes l = length l.z - l.at
