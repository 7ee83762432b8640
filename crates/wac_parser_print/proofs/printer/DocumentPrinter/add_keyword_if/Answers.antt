use Rattle.wac_parser_print.proofs.Adding.{adds_nothing}
use Rattle.wac_parser_print.proofs.printer.DocumentPrinter.add_keyword_if.Goals as goal

pub returns-else-stands : goal.returns-else-stands
returns-else-stands g c = rw c.if-stands.false (adds_nothing _)
