use Rattle.std.proofs.Common.{ap}
use Rattle.wac_parser_print.specs.Texts.{word, unit}
use Rattle.wac_parser_print.specs.Printers.{Printer}
use Rattle.wac_parser_print.proofs.Adding.{same_at}
use Rattle.wac_parser_print.proofs.printer.DocumentPrinter.unit.Goals as goal

pub returns : goal.returns
unfolding word unit
returns g c = same_at (word c.self.inside.space.now) unit (ap (λ (p : Printer). p.layout.space) c.self.view_is) c.word.ensures
