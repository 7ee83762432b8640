use Rattle.std.proofs.Common.{◌≡◌, ◌+◌, ◌-◌, ◌≤◌, length, drop}
use Rattle.wac_parser_lexer.specs.Scan.{word_len, parts_len, next_len, label_len}
use Rattle.wac_parser_lexer.proofs.scan.label_len.Given as goal

abbrev pub invariant-parts : goal.invariant-parts
invariant-parts l = record {
  sum : l.end + parts_len word_len 45 0 (drop l.end l.z) ≡ label_len l.z;
  fits : l.end + l.more ≤ length l.z;
  next : l.more ≡ next_len word_len 45 (drop l.end l.z);
}

abbrev pub decreases-parts : goal.decreases-parts
decreases-parts l = length l.z - l.end
