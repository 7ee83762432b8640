use Rattle.std.proofs.Common.{ap}
use Rattle.std.specs.Option.{option_map}
use Rattle.wac_parser_tree.specs.Views.{view_ty}
use Rattle.wac_parser_print.specs.Printing.{case_type}
use Rattle.wac_parser_print.proofs.Adding.{and_then, of_view, adds_nothing}
use Rattle.wac_parser_print.proofs.printer.DocumentPrinter.add_case_type.Goals as goal

pub returns-in-Some : goal.returns-in-Some
unfolding case_type
returns-in-Some g c = of_view case_type (ap (option_map view_ty) c.in-Some.is) (and_then c.word.ensures (and_then c.add_ty.ensures c.word-in-Some.ensures))

pub returns-in-None : goal.returns-in-None
unfolding case_type
returns-in-None g c = of_view case_type (ap (option_map view_ty) c.in-None.is) (adds_nothing _)
