use Rattle.wac_parser_print.proofs.Adding.{and_then}
use Rattle.wac_parser_print.specs.Printing.{access_expr}
use Rattle.wac_parser_print.proofs.printer.DocumentPrinter.add_access_expr.Goals as goal

pub returns : goal.returns
unfolding access_expr
returns g c = and_then c.word.ensures c.slice.ensures
