use Rattle.wac_parser_print.proofs.Adding.{and_then}
use Rattle.wac_parser_print.specs.Printing.{enum_case}
use Rattle.wac_parser_print.proofs.printer.DocumentPrinter.add_enum_case.Goals as goal

pub returns : goal.returns
unfolding enum_case
returns g c = and_then c.begin.ensures c.slice.ensures
