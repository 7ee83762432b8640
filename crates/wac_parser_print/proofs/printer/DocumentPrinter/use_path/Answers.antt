use Rattle.wac_parser_print.proofs.Adding.{prints}
use Rattle.wac_parser_print.proofs.printer.DocumentPrinter.use_path.Goals as goal

pub returns : goal.returns
returns g c = prints c.outcome.result c.has_failed-had_failed.result c.has_failed-had_failed.ensures c.add_use_path.ensures c.outcome.ensures
