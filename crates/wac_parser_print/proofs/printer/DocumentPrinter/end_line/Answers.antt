use Rattle.wac_parser_print.proofs.Adding.{and_then}
use Rattle.wac_parser_print.specs.Texts.{entry_end}
use Rattle.wac_parser_print.proofs.printer.DocumentPrinter.end_line.Goals as goal

pub returns : goal.returns
unfolding entry_end
returns g c = and_then c.word.ensures c.line_end.ensures
