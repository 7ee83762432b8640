use Rattle.std.proofs.Common.{ap}
use Rattle.wac_parser_tree.specs.Views.{view_statement}
use Rattle.wac_parser_print.specs.Printing.{statement}
use Rattle.wac_parser_print.proofs.Adding.{and_then, of_view, adds_nothing}
use Rattle.wac_parser_print.proofs.printer.DocumentPrinter.add_statement.Goals as goal

pub returns-in-Import : goal.returns-in-Import
unfolding statement
returns-in-Import g c = of_view (statement c.args.level) (ap view_statement c.in-Import.is) (c.add_import_statement.ensures)

pub returns-in-Ty : goal.returns-in-Ty
unfolding statement
returns-in-Ty g c = of_view (statement c.args.level) (ap view_statement c.in-Ty.is) (c.add_type_statement.ensures)

pub returns-in-Let : goal.returns-in-Let
unfolding statement
returns-in-Let g c = of_view (statement c.args.level) (ap view_statement c.in-Let.is) (c.add_let_statement.ensures)

pub returns-in-Export : goal.returns-in-Export
unfolding statement
returns-in-Export g c = of_view (statement c.args.level) (ap view_statement c.in-Export.is) (c.add_export_statement.ensures)
