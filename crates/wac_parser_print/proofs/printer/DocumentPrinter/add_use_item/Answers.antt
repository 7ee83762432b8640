use Rattle.wac_parser_print.proofs.Adding.{and_then}
use Rattle.wac_parser_print.specs.Printing.{use_item}
use Rattle.wac_parser_print.proofs.printer.DocumentPrinter.add_use_item.Goals as goal

pub returns : goal.returns
unfolding use_item
returns g c = and_then c.slice.ensures c.add_new_name.ensures
