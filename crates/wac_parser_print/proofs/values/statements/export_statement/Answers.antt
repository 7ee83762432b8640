use Rattle.wac_parser_print.specs.Values.{export_statement}
use Rattle.wac_parser_print.proofs.values.statements.export_statement.Goals as goal

pub returns : goal.returns
unfolding export_statement
returns c = c.into_value.ensures _ (c.with-3.ensures _ _ (c.with-2.ensures _ _ (c.with.ensures _ _ c.new.ensures c.array-docs.ensures) c.expr-expr.ensures) c.export_options-options.ensures)
