use Rattle.wac_parser_print.proofs.Adding.{and_then}
use Rattle.wac_parser_print.specs.Printing.{constructor}
use Rattle.wac_parser_print.proofs.printer.DocumentPrinter.add_constructor.Goals as goal

pub returns : goal.returns
unfolding constructor
returns g c = and_then c.begin.ensures (and_then c.word.ensures (and_then c.add_named_types.ensures c.word-2.ensures))
