use Rattle.std.proofs.Common.{◌≡◌, ◌∷◌, [], map, take}
use Rattle.wac_parser_print.specs.Texts.{joined, line_end, ◌>>◌}
use Rattle.wac_parser_print.specs.Printers.{Adds}
use Rattle.wac_parser_print.proofs.Adding.{gap}
use Rattle.wac_parser_print.proofs.bodies.add_paragraphs.Given as goal

abbrev pub invariant-loop-entry : goal.invariant-loop-entry
invariant-loop-entry g l = record {
  between : l.between ≡ gap l.entry-index (10 ∷ []);
  added : Adds l.initial.printer (joined (10 ∷ []) (λ x. g.T.Entry.shown l.level x >> line_end) (map g.T.Entry.view (take l.entry-index l.entry-items))) l.printer;
}
