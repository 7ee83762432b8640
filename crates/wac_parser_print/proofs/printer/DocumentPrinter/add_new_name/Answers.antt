use Rattle.std.proofs.Common.{ap}
use Rattle.std.specs.Option.{option_map}
use Rattle.wac_parser_tree.specs.Views.{view_ident}
use Rattle.wac_parser_print.specs.Printing.{new_name}
use Rattle.wac_parser_print.proofs.Adding.{and_then, of_view, adds_nothing}
use Rattle.wac_parser_print.proofs.printer.DocumentPrinter.add_new_name.Goals as goal

pub returns-in-Some : goal.returns-in-Some
unfolding new_name
returns-in-Some g c = of_view new_name (ap (option_map view_ident) c.in-Some.is) (and_then c.word.ensures c.slice.ensures)

pub returns-in-None : goal.returns-in-None
unfolding new_name
returns-in-None g c = of_view new_name (ap (option_map view_ident) c.in-None.is) (adds_nothing _)
