use Rattle.std.proofs.Common.{ap}
use Rattle.wac_parser_tree.specs.Views.{view_extern_name}
use Rattle.wac_parser_print.specs.Printing.{extern_name}
use Rattle.wac_parser_print.proofs.Adding.{and_then, of_view, adds_nothing}
use Rattle.wac_parser_print.proofs.printer.DocumentPrinter.add_extern_name.Goals as goal

pub returns-in-Ident : goal.returns-in-Ident
unfolding extern_name
returns-in-Ident g c = of_view extern_name (ap view_extern_name c.in-Ident.is) (c.slice.ensures)

pub returns-in-String : goal.returns-in-String
unfolding extern_name
returns-in-String g c = of_view extern_name (ap view_extern_name c.in-String.is) (c.slice-in-String.ensures)
