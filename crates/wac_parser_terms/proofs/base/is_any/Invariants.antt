use Rattle.std.proofs.Common.{◌≡◌, Some, drop}
use Rattle.wac_parser_grammar.specs.Ahead.{is_any}
use Rattle.wac_parser_terms.proofs.base.is_any.Given as goal

abbrev pub invariant-loop-token : goal.invariant-loop-token
invariant-loop-token l = is_any (drop l.token-index l.tokens) (Some l.found) ≡ is_any l.tokens (Some l.found)
