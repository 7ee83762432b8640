use Rattle.std.proofs.Common.{◌≡◌, drop}
use Rattle.wac_parser_grammar.specs.Ahead.{tried_until, is_any, token_of}
use Rattle.wac_parser_terms.proofs.lookahead.Lookahead.peek_any.Given as goal

abbrev pub invariant-loop-token : goal.invariant-loop-token
invariant-loop-token l = record {
  after : tried_until (drop l.token-index l.expected) (token_of l.initial.self.next) l.self ≡ tried_until l.expected (token_of l.initial.self.next) l.initial.self;
  next : l.self.next ≡ l.initial.self.next;
  none : is_any l.expected (token_of l.initial.self.next) ≡ is_any (drop l.token-index l.expected) (token_of l.initial.self.next);
}
