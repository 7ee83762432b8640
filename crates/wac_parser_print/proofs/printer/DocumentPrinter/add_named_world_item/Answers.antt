use Rattle.wac_parser_print.proofs.Adding.{and_then}
use Rattle.wac_parser_print.specs.Printing.{named_world_item}
use Rattle.wac_parser_print.proofs.printer.DocumentPrinter.add_named_world_item.Goals as goal

pub returns : goal.returns
unfolding named_world_item
returns g c = and_then c.slice.ensures (and_then c.word.ensures c.add_extern_type.ensures)
