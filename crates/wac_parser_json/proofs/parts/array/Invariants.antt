use Rattle.std.proofs.Common.{◌≡◌, codes, map, take}
use Rattle.wac_parser_print.specs.Printers.{Adds}
use Rattle.wac_parser_print.proofs.Adding.{gap}
use Rattle.wac_parser_json.specs.Writers.{printer_of}
use Rattle.wac_parser_json.proofs.Writing.{items_front}
use Rattle.wac_parser_json.proofs.parts.array.Given as goal

abbrev pub invariant-loop-part : goal.invariant-loop-part
invariant-loop-part g l = record {
  same_sink : l.out.sink.ghost_name ≡ l.initial.out.sink.ghost_name;
  between : l.between ≡ gap l.part-index (codes ",");
  added : Adds (printer_of g.W.Write.contents g.W.ByteSink.calls l.initial.out) (items_front g.T.Part.json (map g.T.Part.plain (take l.part-index l.part-items))) (printer_of g.W.Write.contents g.W.ByteSink.calls l.out);
}
