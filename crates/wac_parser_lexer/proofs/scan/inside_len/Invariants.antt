use Rattle.std.proofs.Common.{◌≡◌, ◌≤◌, length, drop, ◌-◌}
use Rattle.wac_parser_lexer.specs.Scan.{past, inside_len}
use Rattle.wac_parser_lexer.proofs.scan.inside_len.Given as goal

abbrev pub invariant-comment : goal.invariant-comment
invariant-comment l = record {
  sum : past l.end (inside_len l.more (drop l.end l.z)) ≡ inside_len 0 l.z;
  fits : l.end ≤ length l.z;
  few : l.more ≤ l.end;
}

abbrev pub decreases-comment : goal.decreases-comment
decreases-comment l = length l.z - l.end
