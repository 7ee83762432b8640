use Rattle.wac_parser_print.proofs.Adding.{and_then}
use Rattle.wac_parser_print.specs.Printing.{document}
use Rattle.wac_parser_print.proofs.printer.DocumentPrinter.add_document.Goals as goal

pub returns : goal.returns
unfolding document
returns g c = rw (← c.deref.ensures.value) (and_then c.add_docs.ensures (and_then c.add_package_directive.ensures c.add_paragraphs.ensures))
