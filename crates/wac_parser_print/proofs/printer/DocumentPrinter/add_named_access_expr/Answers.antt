use Rattle.wac_parser_print.proofs.Adding.{and_then}
use Rattle.wac_parser_print.specs.Printing.{named_access_expr}
use Rattle.wac_parser_print.proofs.printer.DocumentPrinter.add_named_access_expr.Goals as goal

pub returns : goal.returns
unfolding named_access_expr
returns g c = and_then c.word.ensures (and_then c.slice.ensures c.word-2.ensures)
