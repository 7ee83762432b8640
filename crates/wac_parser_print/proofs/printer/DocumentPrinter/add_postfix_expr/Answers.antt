use Rattle.std.proofs.Common.{ap}
use Rattle.wac_parser_tree.specs.Views.{view_postfix_expr}
use Rattle.wac_parser_print.specs.Printing.{postfix_expr}
use Rattle.wac_parser_print.proofs.Adding.{and_then, of_view, adds_nothing}
use Rattle.wac_parser_print.proofs.printer.DocumentPrinter.add_postfix_expr.Goals as goal

pub returns-in-Access : goal.returns-in-Access
unfolding postfix_expr
returns-in-Access g c = of_view postfix_expr (ap view_postfix_expr c.in-Access.is) (c.add_access_expr.ensures)

pub returns-in-NamedAccess : goal.returns-in-NamedAccess
unfolding postfix_expr
returns-in-NamedAccess g c = of_view postfix_expr (ap view_postfix_expr c.in-NamedAccess.is) (c.add_named_access_expr.ensures)
