use Rattle.wac_parser_tree.specs.Views.{view_postfix_expr}
use Rattle.wac_parser_print.specs.Texts.{ended}
use Rattle.wac_parser_print.specs.Printing as text
use Rattle.wac_parser_print.proofs.Adding.{and_then, each_start, each_copied, each_end}
use Rattle.wac_parser_print.proofs.printer.DocumentPrinter.add_postfix_exprs.Goals as goal

pub loop-access-init : goal.loop-access-init
loop-access-init g c = each_start view_postfix_expr text.postfix_expr _

pub loop-access-preserved : goal.loop-access-preserved
loop-access-preserved g c = each_copied view_postfix_expr text.postfix_expr c.deref-access-items.result.now c.loop-access.access-index _ c.loop-access-test.true c.loop-access.invariant c.add_postfix_expr.ensures

pub returns : goal.returns
returns g c = rw (← c.deref-access-items.ensures.value) (each_end view_postfix_expr text.postfix_expr c.deref-access-items.result.now c.loop-access.access-index c.loop-access-test.false c.loop-access.invariant)
