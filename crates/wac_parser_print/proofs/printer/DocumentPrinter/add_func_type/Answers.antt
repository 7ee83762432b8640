use Rattle.wac_parser_print.proofs.Adding.{and_then}
use Rattle.wac_parser_print.specs.Printing.{func_type}
use Rattle.wac_parser_print.proofs.printer.DocumentPrinter.add_func_type.Goals as goal

pub returns : goal.returns
unfolding func_type
returns g c = and_then c.add_keyword_if.ensures (and_then c.word.ensures (and_then c.add_named_types.ensures (and_then c.word-2.ensures c.add_result_list.ensures)))
