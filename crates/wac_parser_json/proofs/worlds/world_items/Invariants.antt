use Rattle.std.proofs.Common.{◌≡◌, codes, map, take}
use Rattle.wac_parser_tree.specs.Views.{view_world_item}
use Rattle.wac_parser_print.specs.Values as values
use Rattle.wac_parser_print.specs.Printers.{Adds}
use Rattle.wac_parser_print.proofs.Adding.{gap}
use Rattle.wac_parser_json.specs.Writers.{printer_of}
use Rattle.wac_parser_json.proofs.Writing.{items_front}
use Rattle.wac_parser_json.proofs.worlds.world_items.Given as goal

abbrev pub invariant-loop-item : goal.invariant-loop-item
invariant-loop-item g l = record {
  same_sink : l.out.sink.ghost_name ≡ l.initial.out.sink.ghost_name;
  between : l.between ≡ gap l.item-index (codes ",");
  added : Adds (printer_of g.W.Write.contents g.W.ByteSink.calls l.initial.out) (items_front values.world_item (map view_world_item (take l.item-index l.item-items))) (printer_of g.W.Write.contents g.W.ByteSink.calls l.out);
}
