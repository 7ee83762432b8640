use Rattle.wac_parser_print.proofs.Adding.{and_then}
use Rattle.wac_parser_print.specs.Printing.{type_alias}
use Rattle.wac_parser_print.proofs.printer.DocumentPrinter.add_type_alias.Goals as goal

pub returns : goal.returns
unfolding type_alias
returns g c = and_then c.begin.ensures (and_then c.word.ensures (and_then c.slice.ensures (and_then c.word-2.ensures (and_then c.add_type_alias_kind.ensures c.word-3.ensures))))
