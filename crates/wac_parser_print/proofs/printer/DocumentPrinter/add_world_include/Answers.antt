use Rattle.wac_parser_print.proofs.Adding.{and_then}
use Rattle.wac_parser_print.specs.Printing.{world_include}
use Rattle.wac_parser_print.proofs.printer.DocumentPrinter.add_world_include.Goals as goal

pub returns : goal.returns
unfolding world_include
returns g c = and_then c.begin.ensures (and_then c.word.ensures (and_then c.add_world_ref.ensures (and_then c.add_with_items.ensures c.word-2.ensures)))
