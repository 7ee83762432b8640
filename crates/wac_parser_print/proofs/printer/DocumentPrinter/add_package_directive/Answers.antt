use Rattle.wac_parser_print.proofs.Adding.{and_then}
use Rattle.wac_parser_print.specs.Printing.{package_directive}
use Rattle.wac_parser_print.proofs.printer.DocumentPrinter.add_package_directive.Goals as goal

pub returns : goal.returns
unfolding package_directive
returns g c = and_then c.indent.ensures (and_then c.word.ensures (and_then c.slice.ensures (and_then c.add_target.ensures (and_then c.word-2.ensures (and_then c.line_end.ensures c.line_end-2.ensures)))))
