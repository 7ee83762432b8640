use Rattle.wac_parser_print.proofs.Adding.{and_then}
use Rattle.wac_parser_print.specs.Texts.{body_closing}
use Rattle.wac_parser_print.proofs.printer.DocumentPrinter.close_body.Goals as goal

pub returns : goal.returns
unfolding body_closing
returns g c = and_then c.indent.ensures c.word.ensures
