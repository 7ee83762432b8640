use Rattle.wac_parser_print.proofs.Adding.{and_then}
use Rattle.wac_parser_print.specs.Printing.{variant_case}
use Rattle.wac_parser_print.proofs.printer.DocumentPrinter.add_variant_case.Goals as goal

pub returns : goal.returns
unfolding variant_case
returns g c = and_then c.begin.ensures (and_then c.slice.ensures c.add_case_type.ensures)
