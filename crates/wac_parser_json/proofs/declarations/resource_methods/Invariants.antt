use Rattle.std.proofs.Common.{◌≡◌, codes, map, take}
use Rattle.wac_parser_tree.specs.Views.{view_resource_method}
use Rattle.wac_parser_print.specs.Values as values
use Rattle.wac_parser_print.specs.Printers.{Adds}
use Rattle.wac_parser_print.proofs.Adding.{gap}
use Rattle.wac_parser_json.specs.Writers.{printer_of}
use Rattle.wac_parser_json.proofs.Writing.{items_front}
use Rattle.wac_parser_json.proofs.declarations.resource_methods.Given as goal

abbrev pub invariant-loop-member : goal.invariant-loop-member
invariant-loop-member g l = record {
  same_sink : l.out.sink.ghost_name ≡ l.initial.out.sink.ghost_name;
  between : l.between ≡ gap l.member-index (codes ",");
  added : Adds (printer_of g.W.Write.contents g.W.ByteSink.calls l.initial.out) (items_front values.resource_method (map view_resource_method (take l.member-index l.member-items))) (printer_of g.W.Write.contents g.W.ByteSink.calls l.out);
}
