use Rattle.std.proofs.Common.{ap}
use Rattle.wac_parser_tree.specs.Views.{view_world_item_path}
use Rattle.wac_parser_print.specs.Printing.{world_item_path}
use Rattle.wac_parser_print.proofs.Adding.{and_then, of_view, adds_nothing}
use Rattle.wac_parser_print.proofs.printer.DocumentPrinter.add_world_item_path.Goals as goal

pub returns-in-Named : goal.returns-in-Named
unfolding world_item_path
returns-in-Named g c = of_view (world_item_path c.args.level) (ap view_world_item_path c.in-Named.is) (c.add_named_world_item.ensures)

pub returns-in-Package : goal.returns-in-Package
unfolding world_item_path
returns-in-Package g c = of_view (world_item_path c.args.level) (ap view_world_item_path c.in-Package.is) (c.slice.ensures)

pub returns-in-Ident : goal.returns-in-Ident
unfolding world_item_path
returns-in-Ident g c = of_view (world_item_path c.args.level) (ap view_world_item_path c.in-Ident.is) (c.slice-in-Ident.ensures)
