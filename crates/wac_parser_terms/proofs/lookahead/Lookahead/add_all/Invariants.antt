use Rattle.std.proofs.Common.{◌≡◌, drop}
use Rattle.wac_parser_grammar.specs.Ahead.{tried_all}
use Rattle.wac_parser_terms.proofs.lookahead.Lookahead.add_all.Given as goal

abbrev pub invariant-loop-token : goal.invariant-loop-token
invariant-loop-token l = tried_all (drop l.token-index l.expected) l.self ≡ tried_all l.expected l.initial.self
