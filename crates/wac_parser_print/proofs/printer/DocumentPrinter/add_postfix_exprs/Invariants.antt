use Rattle.std.proofs.Common.{map, take}
use Rattle.wac_parser_tree.specs.Views.{view_postfix_expr}
use Rattle.wac_parser_print.specs.Texts.{each, ended}
use Rattle.wac_parser_print.specs.Printing as text
use Rattle.wac_parser_print.specs.Printers.{Adds}
use Rattle.wac_parser_print.proofs.printer.DocumentPrinter.add_postfix_exprs.Given as goal

abbrev pub invariant-loop-access : goal.invariant-loop-access
invariant-loop-access g l = Adds l.initial.self (each text.postfix_expr (map view_postfix_expr (take l.access-index l.access-items))) l.self
