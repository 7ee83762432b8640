use Rattle.wac_parser_print.proofs.Adding.{and_then}
use Rattle.wac_parser_print.specs.Printing.{method}
use Rattle.wac_parser_print.proofs.printer.DocumentPrinter.add_method.Goals as goal

pub returns : goal.returns
unfolding method
returns g c = and_then c.begin.ensures (and_then c.slice.ensures (and_then c.word.ensures (and_then c.add_keyword_if.ensures (and_then c.add_func_type.ensures c.word-2.ensures))))
