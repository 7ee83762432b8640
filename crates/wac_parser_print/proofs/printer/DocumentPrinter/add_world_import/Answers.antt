use Rattle.wac_parser_print.proofs.Adding.{and_then}
use Rattle.wac_parser_print.specs.Printing.{world_import}
use Rattle.wac_parser_print.proofs.printer.DocumentPrinter.add_world_import.Goals as goal

pub returns : goal.returns
unfolding world_import
returns g c = and_then c.begin.ensures (and_then c.word.ensures (and_then c.add_world_item_path.ensures c.word-2.ensures))
