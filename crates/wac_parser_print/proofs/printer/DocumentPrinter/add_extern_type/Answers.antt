use Rattle.std.proofs.Common.{ap}
use Rattle.wac_parser_tree.specs.Views.{view_extern_type}
use Rattle.wac_parser_print.specs.Printing.{extern_type}
use Rattle.wac_parser_print.proofs.Adding.{and_then, of_view, adds_nothing}
use Rattle.wac_parser_print.proofs.printer.DocumentPrinter.add_extern_type.Goals as goal

pub returns-in-Ident : goal.returns-in-Ident
unfolding extern_type
returns-in-Ident g c = of_view (extern_type c.args.level) (ap view_extern_type c.in-Ident.is) (c.slice.ensures)

pub returns-in-Func : goal.returns-in-Func
unfolding extern_type
returns-in-Func g c = of_view (extern_type c.args.level) (ap view_extern_type c.in-Func.is) (c.add_func_type.ensures)

pub returns-in-Interface : goal.returns-in-Interface
unfolding extern_type
returns-in-Interface g c = of_view (extern_type c.args.level) (ap view_extern_type c.in-Interface.is) (c.add_inline_interface.ensures)
