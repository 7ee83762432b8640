use Rattle.std.proofs.Common.{ap}
use Rattle.wac_parser_tree.specs.Views.{view_type_statement}
use Rattle.wac_parser_print.specs.Printing.{type_statement}
use Rattle.wac_parser_print.proofs.Adding.{and_then, of_view, adds_nothing}
use Rattle.wac_parser_print.proofs.printer.DocumentPrinter.add_type_statement.Goals as goal

pub returns-in-Interface : goal.returns-in-Interface
unfolding type_statement
returns-in-Interface g c = of_view (type_statement c.args.level) (ap view_type_statement c.in-Interface.is) (c.add_interface_decl.ensures)

pub returns-in-World : goal.returns-in-World
unfolding type_statement
returns-in-World g c = of_view (type_statement c.args.level) (ap view_type_statement c.in-World.is) (c.add_world_decl.ensures)

pub returns-in-Ty : goal.returns-in-Ty
unfolding type_statement
returns-in-Ty g c = of_view (type_statement c.args.level) (ap view_type_statement c.in-Ty.is) (c.add_type_decl.ensures)
