use Rattle.std.proofs.Common.{ap}
use Rattle.wac_parser_tree.specs.Views.{view_use_path}
use Rattle.wac_parser_print.specs.Printing.{use_path}
use Rattle.wac_parser_print.proofs.Adding.{and_then, of_view, adds_nothing}
use Rattle.wac_parser_print.proofs.printer.DocumentPrinter.add_use_path.Goals as goal

pub returns-in-Package : goal.returns-in-Package
unfolding use_path
returns-in-Package g c = of_view use_path (ap view_use_path c.in-Package.is) (c.slice.ensures)

pub returns-in-Ident : goal.returns-in-Ident
unfolding use_path
returns-in-Ident g c = of_view use_path (ap view_use_path c.in-Ident.is) (c.slice-in-Ident.ensures)
