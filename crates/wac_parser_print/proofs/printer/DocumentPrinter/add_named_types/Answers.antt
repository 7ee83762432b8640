use Rattle.std.proofs.Common.{◌∷◌, [], codes, refl}
use Rattle.wac_parser_tree.specs.Views.{view_named_type}
use Rattle.wac_parser_print.specs.Texts.{line_end, ◌>>◌}
use Rattle.wac_parser_print.specs.Printing as text
use Rattle.wac_parser_print.specs.Printing.{named_types}
use Rattle.wac_parser_print.proofs.Adding.{and_then, joined_start, joined_step, joined_end, gap_more}
use Rattle.wac_parser_print.proofs.printer.DocumentPrinter.add_named_types.Goals as goal

pub loop-ty-init : goal.loop-ty-init
loop-ty-init g c = record { between = refl; added = joined_start view_named_type (codes ", ") text.named_type _ }

pub loop-ty-preserved : goal.loop-ty-preserved
loop-ty-preserved g c = record {
  between = gap_more c.loop-ty.ty-index (codes ", ");
  added = joined_step view_named_type (codes ", ") _ text.named_type c.deref-ty-items.result.now c.loop-ty.ty-index c.ty-item.result c.loop-ty-test.true c.ty-item.is c.loop-ty.invariant.between c.loop-ty.invariant.added c.word.ensures c.add_named_type.ensures;
}

pub returns : goal.returns
unfolding named_types
returns g c = rw (← c.deref-ty-items.ensures.value) (joined_end view_named_type (codes ", ") text.named_type c.deref-ty-items.result.now c.loop-ty.ty-index c.loop-ty-test.false c.loop-ty.invariant.added)
