use Rattle.std.proofs.Common.{◌≡◌, ◌∷◌, [], codes, map, take}
use Rattle.wac_parser_tree.specs.Views.{view_use_item}
use Rattle.wac_parser_print.specs.Texts.{joined, line_end, ◌>>◌}
use Rattle.wac_parser_print.specs.Printing as text
use Rattle.wac_parser_print.specs.Printers.{Adds}
use Rattle.wac_parser_print.proofs.Adding.{gap}
use Rattle.wac_parser_print.proofs.printer.DocumentPrinter.add_use_items.Given as goal

abbrev pub invariant-loop-item : goal.invariant-loop-item
invariant-loop-item g l = record {
  between : l.between ≡ gap l.item-index (codes ", ");
  added : Adds l.initial.self (joined (codes ", ") text.use_item (map view_use_item (take l.item-index l.item-items))) l.self;
}
