use Rattle.std.proofs.Common.{ℕ, List, Bor, map}
use Rattle.wac_parser_print.specs.Texts.{each}
use Rattle.wac_parser_print.specs.Printing as text
use Rattle.wac_parser_print.specs.Printers.{Adds}
use Rattle.wac_parser_print.proofs.printer.DocumentPrinter.add_doc.Given as goal

abbrev pub invariant-loop-line : goal.invariant-loop-line
invariant-loop-line g l = Adds l.initial.self (each (text.doc_line l.level) (map (λ (x : Bor (List ℕ)). x.now) l.yielded)) l.self
