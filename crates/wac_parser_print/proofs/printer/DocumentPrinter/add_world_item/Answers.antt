use Rattle.std.proofs.Common.{ap}
use Rattle.wac_parser_tree.specs.Views.{view_world_item}
use Rattle.wac_parser_print.specs.Printing.{world_item}
use Rattle.wac_parser_print.proofs.Adding.{and_then, of_view, adds_nothing}
use Rattle.wac_parser_print.proofs.printer.DocumentPrinter.add_world_item.Goals as goal

pub returns-in-Use : goal.returns-in-Use
unfolding world_item
returns-in-Use g c = of_view (world_item c.args.level) (ap view_world_item c.in-Use.is) (c.add_use_type.ensures)

pub returns-in-Ty : goal.returns-in-Ty
unfolding world_item
returns-in-Ty g c = of_view (world_item c.args.level) (ap view_world_item c.in-Ty.is) (c.add_item_type_decl.ensures)

pub returns-in-Import : goal.returns-in-Import
unfolding world_item
returns-in-Import g c = of_view (world_item c.args.level) (ap view_world_item c.in-Import.is) (c.add_world_import.ensures)

pub returns-in-Export : goal.returns-in-Export
unfolding world_item
returns-in-Export g c = of_view (world_item c.args.level) (ap view_world_item c.in-Export.is) (c.add_world_export.ensures)

pub returns-in-Include : goal.returns-in-Include
unfolding world_item
returns-in-Include g c = of_view (world_item c.args.level) (ap view_world_item c.in-Include.is) (c.add_world_include.ensures)
