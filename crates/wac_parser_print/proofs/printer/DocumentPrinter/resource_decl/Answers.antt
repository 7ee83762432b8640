use Rattle.wac_parser_print.proofs.Adding.{prints}
use Rattle.wac_parser_print.proofs.printer.DocumentPrinter.resource_decl.Goals as goal

pub returns : goal.returns
returns g c = prints c.outcome.result c.has_failed-had_failed.result c.has_failed-had_failed.ensures c.add_resource_decl.ensures c.outcome.ensures
