use Rattle.std.proofs.Common.{◌≡◌, ◌∷◌, [], codes, map, take}
use Rattle.wac_parser_tree.specs.Views.{view_named_type}
use Rattle.wac_parser_print.specs.Texts.{joined, line_end, ◌>>◌}
use Rattle.wac_parser_print.specs.Printing as text
use Rattle.wac_parser_print.specs.Printers.{Adds}
use Rattle.wac_parser_print.proofs.Adding.{gap}
use Rattle.wac_parser_print.proofs.printer.DocumentPrinter.add_named_types.Given as goal

abbrev pub invariant-loop-ty : goal.invariant-loop-ty
invariant-loop-ty g l = record {
  between : l.between ≡ gap l.ty-index (codes ", ");
  added : Adds l.initial.self (joined (codes ", ") text.named_type (map view_named_type (take l.ty-index l.ty-items))) l.self;
}
