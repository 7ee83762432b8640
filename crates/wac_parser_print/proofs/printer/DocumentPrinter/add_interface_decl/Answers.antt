use Rattle.wac_parser_print.proofs.Adding.{and_then}
use Rattle.wac_parser_print.specs.Printing.{interface_decl, interface_items}
use Rattle.wac_parser_print.proofs.printer.DocumentPrinter.add_interface_decl.Goals as goal

pub returns : goal.returns
unfolding interface_decl interface_items
returns g c = and_then c.begin.ensures (and_then c.word.ensures (and_then c.slice.ensures c.add_body_of_items.ensures))
