use Rattle.wac_parser_print.proofs.Adding.{and_then}
use Rattle.wac_parser_print.specs.Printing.{use_type}
use Rattle.wac_parser_print.proofs.printer.DocumentPrinter.add_use_type.Goals as goal

pub returns : goal.returns
unfolding use_type
returns g c = and_then c.begin.ensures (and_then c.word.ensures (and_then c.add_use_path.ensures (and_then c.word-2.ensures (and_then c.add_use_items.ensures c.word-3.ensures))))
