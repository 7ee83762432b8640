use Rattle.wac_parser_print.specs.Values.{type_statement}
use Rattle.wac_parser_print.proofs.values.statements.type_statement.Goals as goal

pub returns-in-Interface : goal.returns-in-Interface
unfolding type_statement
returns-in-Interface c = rw c.in-Interface.is (c.variant.ensures _ c.interface_decl.ensures)
