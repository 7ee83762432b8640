use Rattle.wac_parser_print.specs.Values.{extern_type}
use Rattle.wac_parser_print.proofs.values.worlds.extern_type.Goals as goal

pub returns-in-Interface : goal.returns-in-Interface
unfolding extern_type
returns-in-Interface c = rw c.in-Interface.is (c.variant-in-Interface.ensures _ c.inline_interface.ensures)
