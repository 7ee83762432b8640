use Rattle.std.proofs.Common.{ap}
use Rattle.wac_parser_tree.specs.Views.{view_interface_item}
use Rattle.wac_parser_print.specs.Printing.{interface_item}
use Rattle.wac_parser_print.proofs.Adding.{and_then, of_view, adds_nothing}
use Rattle.wac_parser_print.proofs.printer.DocumentPrinter.add_interface_item.Goals as goal

pub returns-in-Use : goal.returns-in-Use
unfolding interface_item
returns-in-Use g c = of_view (interface_item c.args.level) (ap view_interface_item c.in-Use.is) (rw c.deref.ensures at c.add_use_type.ensures)

pub returns-in-Ty : goal.returns-in-Ty
unfolding interface_item
returns-in-Ty g c = of_view (interface_item c.args.level) (ap view_interface_item c.in-Ty.is) (c.add_item_type_decl.ensures)

pub returns-in-Export : goal.returns-in-Export
unfolding interface_item
returns-in-Export g c = of_view (interface_item c.args.level) (ap view_interface_item c.in-Export.is) (c.add_interface_export.ensures)
