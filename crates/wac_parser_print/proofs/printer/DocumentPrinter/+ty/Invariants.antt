use Rattle.std.proofs.Common.{◌≡◌, codes, map, take}
use Rattle.wac_parser_tree.specs.Views.{view_ty}
use Rattle.wac_parser_print.specs.Texts.{joined}
use Rattle.wac_parser_print.specs.Printing as text
use Rattle.wac_parser_print.specs.Printers.{Adds}
use Rattle.wac_parser_print.proofs.Adding.{gap}
use Rattle.wac_parser_print.proofs.printer.DocumentPrinter.+ty.Given as goal

abbrev pub invariant-add_tuple-loop-ty : goal.invariant-add_tuple-loop-ty
invariant-add_tuple-loop-ty g l = record {
  between : l.between ≡ gap l.ty-index (codes ", ");
  added : Adds l.initial.self (joined (codes ", ") text.ty (map view_ty (take l.ty-index l.ty-items))) l.self;
}
