use Rattle.wac_parser_print.proofs.Adding.{and_then}
use Rattle.wac_parser_print.specs.Printing.{world_include_item}
use Rattle.wac_parser_print.proofs.printer.DocumentPrinter.add_world_include_item.Goals as goal

pub returns : goal.returns
unfolding world_include_item
returns g c = and_then c.indent.ensures (and_then c.slice.ensures (and_then c.word.ensures c.slice-2.ensures))
