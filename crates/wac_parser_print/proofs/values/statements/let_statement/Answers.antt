use Rattle.wac_parser_print.specs.Values.{let_statement}
use Rattle.wac_parser_print.proofs.values.statements.let_statement.Goals as goal

pub returns : goal.returns
unfolding let_statement
returns c = c.declaration.ensures _ c.expr-expr.ensures
