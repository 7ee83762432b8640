use Rattle.wac_parser_print.proofs.Adding.{and_then}
use Rattle.wac_parser_print.specs.Texts.{body_opening}
use Rattle.wac_parser_print.proofs.printer.DocumentPrinter.open_body.Goals as goal

pub returns : goal.returns
unfolding body_opening
returns g c = and_then c.word.ensures c.line_end.ensures
