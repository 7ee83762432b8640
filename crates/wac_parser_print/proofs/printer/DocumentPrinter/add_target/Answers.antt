use Rattle.std.proofs.Common.{ap}
use Rattle.std.specs.Option.{option_map}
use Rattle.wac_parser_tree.specs.Views.{view_package_path}
use Rattle.wac_parser_print.specs.Printing.{target}
use Rattle.wac_parser_print.proofs.Adding.{and_then, of_view, adds_nothing}
use Rattle.wac_parser_print.proofs.printer.DocumentPrinter.add_target.Goals as goal

pub returns-in-Some : goal.returns-in-Some
unfolding target
returns-in-Some g c = of_view target (ap (option_map view_package_path) c.in-Some.is) (and_then c.word.ensures c.slice.ensures)

pub returns-in-None : goal.returns-in-None
unfolding target
returns-in-None g c = of_view target (ap (option_map view_package_path) c.in-None.is) (adds_nothing _)
