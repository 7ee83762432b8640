use Rattle.wac_parser_print.specs.Values.{import_type}
use Rattle.wac_parser_print.proofs.values.statements.import_type.Goals as goal

pub returns-in-Interface : goal.returns-in-Interface
unfolding import_type
returns-in-Interface c = rw c.in-Interface.is (c.variant-in-Interface.ensures _ c.inline_interface.ensures)
