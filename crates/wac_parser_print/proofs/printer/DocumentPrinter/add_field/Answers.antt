use Rattle.wac_parser_print.proofs.Adding.{and_then}
use Rattle.wac_parser_print.specs.Printing.{field}
use Rattle.wac_parser_print.proofs.printer.DocumentPrinter.add_field.Goals as goal

pub returns : goal.returns
unfolding field
returns g c = and_then c.begin.ensures (and_then c.slice.ensures (and_then c.word.ensures c.add_ty.ensures))
