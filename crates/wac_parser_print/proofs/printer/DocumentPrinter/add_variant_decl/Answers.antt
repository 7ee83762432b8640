use Rattle.wac_parser_print.proofs.Adding.{and_then}
use Rattle.wac_parser_print.specs.Printing.{variant_decl}
use Rattle.wac_parser_print.proofs.printer.DocumentPrinter.add_variant_decl.Goals as goal

pub returns : goal.returns
unfolding variant_decl
returns g c = and_then c.begin.ensures (and_then c.word.ensures (and_then c.slice.ensures c.add_body_of_entries.ensures))
