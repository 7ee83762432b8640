use Rattle.wac_parser_terms.proofs.Tokens.{optional_taken, optional_missed}
use Rattle.wac_parser_terms.proofs.base.optional.Goals as goal

pub returns-in-Some-clause-value : goal.returns-in-Some-clause-value
returns-in-Some-clause-value c = optional_taken c.args.token c.args.lexer.now _ _ c.in-Some.ensures.0 c.in-Some.ensures.1

pub returns-in-None-clause-value : goal.returns-in-None-clause-value
returns-in-None-clause-value c = optional_missed c.args.token c.args.lexer.now _ c.absent.result c.in-None.ensures.1 c.in-None.ensures.0 c.absent.ensures.value
