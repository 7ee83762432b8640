use Rattle.std.proofs.Common.{◌≡◌, ◌≤◌, length, map}
use Rattle.wac_parser_lexer.specs.declared.token.Token.TheVariants as k
use Rattle.wac_parser_lexer.specs.Front.{spelled_from}
use Rattle.wac_parser_lexer.proofs.front.spelled_in.Given as goal

abbrev pub invariant-table : goal.invariant-table
invariant-table l = record {
  value : spelled_from l.best (map (λ e. (e.0.now, e.1)) l.table) l.z ≡ spelled_from (k.Ident, 0) (map (λ e. (e.0.now, e.1)) l.initial.table) l.z;
  fits : l.best.1 ≤ length l.z;
}

abbrev pub decreases-table : goal.decreases-table
decreases-table l = length l.table
