use Rattle.wac_parser_declare.proofs.functions.func_type.Goals as goal

pub returns-clause-outcome : goal.returns-clause-outcome
returns-clause-outcome g c = c.function.ensures.outcome
