use Rattle.wac_parser_print.proofs.Adding.{and_then}
use Rattle.wac_parser_print.specs.Printing.{begin}
use Rattle.wac_parser_print.proofs.printer.DocumentPrinter.begin.Goals as goal

pub returns : goal.returns
unfolding begin
returns g c = rw (← c.deref.ensures.value) (and_then c.add_docs.ensures c.indent.ensures)
