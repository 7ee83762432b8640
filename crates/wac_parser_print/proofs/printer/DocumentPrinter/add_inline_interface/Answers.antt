use Rattle.wac_parser_print.proofs.Adding.{and_then}
use Rattle.wac_parser_print.specs.Printing.{inline_interface, interface_items}
use Rattle.wac_parser_print.proofs.printer.DocumentPrinter.add_inline_interface.Goals as goal

pub returns : goal.returns
unfolding inline_interface interface_items
returns g c = and_then c.word.ensures c.add_body_of_items.ensures
