use Rattle.wac_parser_print.specs.Texts.{line_end}
use Rattle.wac_parser_print.proofs.printer.DocumentPrinter.line_end.Goals as goal

pub returns : goal.returns
unfolding line_end
returns g c = c.word.ensures
