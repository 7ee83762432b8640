use Rattle.wac_parser_print.proofs.Adding.{prints}
use Rattle.wac_parser_print.proofs.printer.DocumentPrinter.named_world_item.Goals as goal

pub returns : goal.returns
returns g c = prints c.outcome.result c.has_failed-had_failed.result c.has_failed-had_failed.ensures c.add_named_world_item.ensures c.outcome.ensures
