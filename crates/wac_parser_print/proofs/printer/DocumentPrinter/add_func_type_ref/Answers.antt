use Rattle.std.proofs.Common.{ap}
use Rattle.wac_parser_tree.specs.Views.{view_func_type_ref}
use Rattle.wac_parser_print.specs.Printing.{func_type_ref}
use Rattle.wac_parser_print.proofs.Adding.{and_then, of_view, adds_nothing}
use Rattle.wac_parser_print.proofs.printer.DocumentPrinter.add_func_type_ref.Goals as goal

pub returns-in-Func : goal.returns-in-Func
unfolding func_type_ref
returns-in-Func g c = of_view func_type_ref (ap view_func_type_ref c.in-Func.is) (c.add_func_type.ensures)

pub returns-in-Ident : goal.returns-in-Ident
unfolding func_type_ref
returns-in-Ident g c = of_view func_type_ref (ap view_func_type_ref c.in-Ident.is) (c.slice.ensures)
