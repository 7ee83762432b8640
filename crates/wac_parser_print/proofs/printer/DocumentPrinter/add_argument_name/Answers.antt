use Rattle.std.proofs.Common.{ap}
use Rattle.wac_parser_tree.specs.Views.{view_instantiation_argument_name}
use Rattle.wac_parser_print.specs.Printing.{argument_name}
use Rattle.wac_parser_print.proofs.Adding.{and_then, of_view, adds_nothing}
use Rattle.wac_parser_print.proofs.printer.DocumentPrinter.add_argument_name.Goals as goal

pub returns-in-Ident : goal.returns-in-Ident
unfolding argument_name
returns-in-Ident g c = of_view argument_name (ap view_instantiation_argument_name c.in-Ident.is) (c.slice.ensures)

pub returns-in-String : goal.returns-in-String
unfolding argument_name
returns-in-String g c = of_view argument_name (ap view_instantiation_argument_name c.in-String.is) (c.slice-in-String.ensures)
