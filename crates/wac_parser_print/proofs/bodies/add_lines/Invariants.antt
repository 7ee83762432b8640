use Rattle.std.proofs.Common.{map, take}
use Rattle.wac_parser_print.specs.Texts.{each, ended}
use Rattle.wac_parser_print.specs.Printers.{Adds}
use Rattle.wac_parser_print.proofs.bodies.add_lines.Given as goal

abbrev pub invariant-loop-entry : goal.invariant-loop-entry
invariant-loop-entry g l = Adds l.initial.printer (each (λ y. ended (g.T.Entry.shown l.level y)) (map g.T.Entry.view (take l.entry-index l.entry-items))) l.printer
