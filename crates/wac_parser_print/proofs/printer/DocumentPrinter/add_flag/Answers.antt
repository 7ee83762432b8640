use Rattle.wac_parser_print.proofs.Adding.{and_then}
use Rattle.wac_parser_print.specs.Printing.{flag}
use Rattle.wac_parser_print.proofs.printer.DocumentPrinter.add_flag.Goals as goal

pub returns : goal.returns
unfolding flag
returns g c = and_then c.begin.ensures c.slice.ensures
