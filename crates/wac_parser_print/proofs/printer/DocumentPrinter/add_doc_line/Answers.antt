use Rattle.wac_parser_print.proofs.Adding.{and_then}
use Rattle.wac_parser_print.specs.Printing.{doc_line}
use Rattle.wac_parser_print.proofs.printer.DocumentPrinter.add_doc_line.Goals as goal

pub returns : goal.returns
unfolding doc_line
returns g c = rw (← c.trim.ensures.trim) (and_then c.indent.ensures (and_then c.word.ensures (and_then c.word-2.ensures c.line_end.ensures)))
