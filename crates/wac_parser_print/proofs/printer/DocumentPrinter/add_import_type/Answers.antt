use Rattle.std.proofs.Common.{ap}
use Rattle.wac_parser_tree.specs.Views.{view_import_type}
use Rattle.wac_parser_print.specs.Printing.{import_type}
use Rattle.wac_parser_print.proofs.Adding.{and_then, of_view, adds_nothing}
use Rattle.wac_parser_print.proofs.printer.DocumentPrinter.add_import_type.Goals as goal

pub returns-in-Package : goal.returns-in-Package
unfolding import_type
returns-in-Package g c = of_view (import_type c.args.level) (ap view_import_type c.in-Package.is) (c.slice.ensures)

pub returns-in-Func : goal.returns-in-Func
unfolding import_type
returns-in-Func g c = of_view (import_type c.args.level) (ap view_import_type c.in-Func.is) (c.add_func_type.ensures)

pub returns-in-Interface : goal.returns-in-Interface
unfolding import_type
returns-in-Interface g c = of_view (import_type c.args.level) (ap view_import_type c.in-Interface.is) (c.add_inline_interface.ensures)

pub returns-in-Ident : goal.returns-in-Ident
unfolding import_type
returns-in-Ident g c = of_view (import_type c.args.level) (ap view_import_type c.in-Ident.is) (c.slice-in-Ident.ensures)
