use Rattle.std.proofs.Common.{◌∷◌, [], codes, refl}
use Rattle.wac_parser_tree.specs.Views.{view_use_item}
use Rattle.wac_parser_print.specs.Texts.{line_end, ◌>>◌}
use Rattle.wac_parser_print.specs.Printing as text
use Rattle.wac_parser_print.proofs.Adding.{and_then, joined_start, joined_copied, joined_end, gap_more}
use Rattle.wac_parser_print.proofs.printer.DocumentPrinter.add_use_items.Goals as goal

pub loop-item-init : goal.loop-item-init
loop-item-init g c = record { between = refl; added = joined_start view_use_item (codes ", ") text.use_item _ }

pub loop-item-preserved : goal.loop-item-preserved
loop-item-preserved g c = record {
  between = gap_more c.loop-item.item-index (codes ", ");
  added = joined_copied view_use_item (codes ", ") _ text.use_item c.deref-item-items.result.now c.loop-item.item-index _ c.loop-item-test.true c.loop-item.invariant.between c.loop-item.invariant.added c.word.ensures c.add_use_item.ensures;
}

pub returns : goal.returns
returns g c = rw (← c.deref-item-items.ensures.value) (joined_end view_use_item (codes ", ") text.use_item c.deref-item-items.result.now c.loop-item.item-index c.loop-item-test.false c.loop-item.invariant.added)
