use Rattle.wac_parser_print.proofs.Adding.{and_then}
use Rattle.wac_parser_print.specs.Printing.{interface_export}
use Rattle.wac_parser_print.proofs.printer.DocumentPrinter.add_interface_export.Goals as goal

pub returns : goal.returns
unfolding interface_export
returns g c = and_then c.begin.ensures (and_then c.slice.ensures (and_then c.word.ensures (and_then c.add_func_type_ref.ensures c.word-2.ensures)))
