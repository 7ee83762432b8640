use Rattle.wac_parser_print.proofs.Adding.{and_then}
use Rattle.wac_parser_print.specs.Printing.{let_statement}
use Rattle.wac_parser_print.proofs.printer.DocumentPrinter.add_let_statement.Goals as goal

pub returns : goal.returns
unfolding let_statement
returns g c = and_then c.begin.ensures (and_then c.word.ensures (and_then c.slice.ensures (and_then c.word-2.ensures (and_then c.add_expr.ensures c.word-3.ensures))))
