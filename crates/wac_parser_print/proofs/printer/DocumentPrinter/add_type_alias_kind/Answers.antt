use Rattle.std.proofs.Common.{ap}
use Rattle.wac_parser_tree.specs.Views.{view_type_alias_kind}
use Rattle.wac_parser_print.specs.Printing.{type_alias_kind}
use Rattle.wac_parser_print.proofs.Adding.{and_then, of_view, adds_nothing}
use Rattle.wac_parser_print.proofs.printer.DocumentPrinter.add_type_alias_kind.Goals as goal

pub returns-in-Func : goal.returns-in-Func
unfolding type_alias_kind
returns-in-Func g c = of_view type_alias_kind (ap view_type_alias_kind c.in-Func.is) (c.add_func_type.ensures)

pub returns-in-Ty : goal.returns-in-Ty
unfolding type_alias_kind
returns-in-Ty g c = of_view type_alias_kind (ap view_type_alias_kind c.in-Ty.is) (c.add_ty.ensures)
