use Rattle.wac_parser_print.proofs.Adding.{and_then}
use Rattle.wac_parser_print.specs.Printing.{resource_decl}
use Rattle.wac_parser_print.proofs.printer.DocumentPrinter.add_resource_decl.Goals as goal

pub returns : goal.returns
unfolding resource_decl
returns g c = and_then c.begin.ensures (and_then c.word.ensures (and_then c.slice.ensures c.add_body_of_items.ensures))
