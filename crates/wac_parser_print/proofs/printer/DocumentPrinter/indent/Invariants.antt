use Rattle.wac_parser_print.specs.Texts.{indent}
use Rattle.wac_parser_print.specs.Printers.{Adds}
use Rattle.wac_parser_print.proofs.printer.DocumentPrinter.indent.Given as goal

abbrev pub invariant-loop-n : goal.invariant-loop-n
invariant-loop-n g l = Adds l.initial.self (indent l.n) l.self
