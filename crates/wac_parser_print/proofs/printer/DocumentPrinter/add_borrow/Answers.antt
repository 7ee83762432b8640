use Rattle.wac_parser_print.proofs.Adding.{and_then}
use Rattle.wac_parser_print.proofs.printer.DocumentPrinter.add_borrow.Goals as goal

pub returns : goal.returns
returns g c = and_then c.word.ensures (and_then c.slice.ensures c.word-2.ensures)
