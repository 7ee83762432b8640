use Rattle.std.proofs.Common.{ap}
use Rattle.wac_parser_tree.specs.Views.{view_resource_method}
use Rattle.wac_parser_print.specs.Printing.{resource_method}
use Rattle.wac_parser_print.proofs.Adding.{and_then, of_view, adds_nothing}
use Rattle.wac_parser_print.proofs.printer.DocumentPrinter.add_resource_method.Goals as goal

pub returns-in-Constructor : goal.returns-in-Constructor
unfolding resource_method
returns-in-Constructor g c = of_view (resource_method c.args.level) (ap view_resource_method c.in-Constructor.is) (c.add_constructor.ensures)

pub returns-in-Method : goal.returns-in-Method
unfolding resource_method
returns-in-Method g c = of_view (resource_method c.args.level) (ap view_resource_method c.in-Method.is) (c.add_method.ensures)
