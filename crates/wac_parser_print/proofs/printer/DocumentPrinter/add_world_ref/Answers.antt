use Rattle.std.proofs.Common.{ap}
use Rattle.wac_parser_tree.specs.Views.{view_world_ref}
use Rattle.wac_parser_print.specs.Printing.{world_ref}
use Rattle.wac_parser_print.proofs.Adding.{and_then, of_view, adds_nothing}
use Rattle.wac_parser_print.proofs.printer.DocumentPrinter.add_world_ref.Goals as goal

pub returns-in-Ident : goal.returns-in-Ident
unfolding world_ref
returns-in-Ident g c = of_view world_ref (ap view_world_ref c.in-Ident.is) (c.slice.ensures)

pub returns-in-Package : goal.returns-in-Package
unfolding world_ref
returns-in-Package g c = of_view world_ref (ap view_world_ref c.in-Package.is) (c.slice-in-Package.ensures)
