use Rattle.wac_parser_print.proofs.Adding.{prints}
use Rattle.wac_parser_print.proofs.printer.DocumentPrinter.import_type.Goals as goal

pub returns : goal.returns
returns g c = prints c.outcome.result c.has_failed-had_failed.result c.has_failed-had_failed.ensures c.add_import_type.ensures c.outcome.ensures
