use Rattle.std.proofs.Common.{ap}
use Rattle.wac_parser_tree.specs.Views.{view_result_list}
use Rattle.wac_parser_print.specs.Printing.{result_list}
use Rattle.wac_parser_print.proofs.Adding.{and_then, of_view, adds_nothing}
use Rattle.wac_parser_print.proofs.printer.DocumentPrinter.add_result_list.Goals as goal

pub returns-in-Scalar : goal.returns-in-Scalar
unfolding result_list
returns-in-Scalar g c = of_view result_list (ap view_result_list c.in-Scalar.is) (and_then c.word.ensures c.add_ty.ensures)

pub returns-in-Empty : goal.returns-in-Empty
unfolding result_list
returns-in-Empty g c = of_view result_list (ap view_result_list c.in-Empty.is) (adds_nothing _)
