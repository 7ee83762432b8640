use Rattle.std.proofs.Common.{◌≡◌, codes, map, take}
use Rattle.wac_parser_tree.specs.Views.{view_instantiation_argument}
use Rattle.wac_parser_print.specs.Values as values
use Rattle.wac_parser_print.specs.Printers.{Adds}
use Rattle.wac_parser_print.proofs.Adding.{gap}
use Rattle.wac_parser_json.specs.Writers.{printer_of}
use Rattle.wac_parser_json.proofs.Writing.{items_front}
use Rattle.wac_parser_json.proofs.exprs.+expr.Given as goal

abbrev pub invariant-arguments-loop-one : goal.invariant-arguments-loop-one
invariant-arguments-loop-one g l = record {
  same_sink : l.out.sink.ghost_name ≡ l.initial.out.sink.ghost_name;
  between : l.between ≡ gap l.one-index (codes ",");
  added : Adds (printer_of g.W.Write.contents g.W.ByteSink.calls l.initial.out) (items_front values.argument (map view_instantiation_argument (take l.one-index l.one-items))) (printer_of g.W.Write.contents g.W.ByteSink.calls l.out);
}
