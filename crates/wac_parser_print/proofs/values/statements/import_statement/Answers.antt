use Rattle.wac_parser_print.specs.Values.{import_statement}
use Rattle.wac_parser_print.proofs.values.statements.import_statement.Goals as goal

pub returns : goal.returns
unfolding import_statement
returns c = c.into_value.ensures _ (c.with-4.ensures _ _ (c.with-3.ensures _ _ (c.with-2.ensures _ _ (c.with.ensures _ _ c.new.ensures c.array-docs.ensures) c.ident-id.ensures) c.import_name-name.ensures) c.import_type-ty.ensures)
