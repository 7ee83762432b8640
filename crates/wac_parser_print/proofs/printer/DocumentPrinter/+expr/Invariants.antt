use Rattle.std.proofs.Common.{map, take}
use Rattle.wac_parser_tree.specs.Views.{view_instantiation_argument}
use Rattle.wac_parser_print.specs.Texts.{each, own_line}
use Rattle.wac_parser_print.specs.Printing as text
use Rattle.wac_parser_print.specs.Printers.{Adds}
use Rattle.wac_parser_print.proofs.printer.DocumentPrinter.+expr.Given as goal

abbrev pub invariant-add_argument_lines-loop-argument : goal.invariant-add_argument_lines-loop-argument
invariant-add_argument_lines-loop-argument g l = Adds l.initial.self (each (λ y. own_line l.level (text.argument l.level y)) (map view_instantiation_argument (take l.argument-index l.argument-items))) l.self
