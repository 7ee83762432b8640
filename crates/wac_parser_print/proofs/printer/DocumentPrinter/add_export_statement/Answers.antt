use Rattle.wac_parser_print.proofs.Adding.{and_then}
use Rattle.wac_parser_print.specs.Printing.{export_statement}
use Rattle.wac_parser_print.proofs.printer.DocumentPrinter.add_export_statement.Goals as goal

pub returns : goal.returns
unfolding export_statement
returns g c = and_then c.begin.ensures (and_then c.word.ensures (and_then c.add_expr.ensures (and_then c.add_export_options.ensures c.word-2.ensures)))
