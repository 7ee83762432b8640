use Rattle.std.proofs.Common.{◌≡◌, ◌+◌, ◌-◌, ◌≤◌, length, drop}
use Rattle.wac_parser_lexer.specs.Scan.{ident_len, parts_len, next_len, idents_len}
use Rattle.wac_parser_lexer.proofs.scan.idents_len.Given as goal

abbrev pub invariant-parts : goal.invariant-parts
invariant-parts l = record {
  sum : l.end + parts_len ident_len l.joint 0 (drop l.end l.z) ≡ idents_len l.joint l.z;
  fits : l.end + l.more ≤ length l.z;
  next : l.more ≡ next_len ident_len l.joint (drop l.end l.z);
}

abbrev pub decreases-parts : goal.decreases-parts
decreases-parts l = length l.z - l.end
