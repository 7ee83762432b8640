use Rattle.std.proofs.Common.{ap, ◌∙◌}
use Rattle.wac_parser_grammar.specs.Ahead.{missed}
use Rattle.wac_parser_terms.proofs.Tokens.{token_taken, token_missed}
use Rattle.wac_parser_terms.proofs.base.parse_token.Goals as goal

pub returns-in-Some-clause-value : goal.returns-in-Some-clause-value
returns-in-Some-clause-value c = token_taken c.args.expected c.args.lexer.now c.take.new.self c.in-Some.span c.in-Some.ensures.0 c.in-Some.ensures.1

pub returns-in-None-clause-value : goal.returns-in-None-clause-value
returns-in-None-clause-value c = λ _. token_missed c.args.expected c.args.lexer.now _ c.in-None.ensures.0 (c.missed.ensures.fault ∙ ap (missed c.args.expected) c.in-None.ensures.1)
