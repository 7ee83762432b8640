use Rattle.std.proofs.Common.{◌≡◌, ◌+◌, ◌-◌, ◌≤◌, length, drop}
use Rattle.std.specs.List.{prefix_len}
use Rattle.wac_parser_lexer.specs.Words.{is_version_byte}
use Rattle.wac_parser_lexer.specs.Scan.{parts_len, next_len, version_parts_len}
use Rattle.wac_parser_lexer.proofs.scan.version_parts_len.Given as goal

abbrev pub invariant-parts : goal.invariant-parts
invariant-parts l = record {
  sum : l.end + parts_len (prefix_len is_version_byte) 46 0 (drop l.end l.z) ≡ version_parts_len l.z;
  fits : l.end + l.more ≤ length l.z;
  next : l.more ≡ next_len (prefix_len is_version_byte) 46 (drop l.end l.z);
}

abbrev pub decreases-parts : goal.decreases-parts
decreases-parts l = length l.z - l.end
