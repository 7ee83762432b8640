use Rattle.wac_parser_print.proofs.Adding.{indent_start, indent_step}
use Rattle.wac_parser_print.proofs.printer.DocumentPrinter.indent.Goals as goal

pub loop-n-init : goal.loop-n-init
loop-n-init g c = indent_start _

pub loop-n-preserved : goal.loop-n-preserved
loop-n-preserved g c = indent_step c.loop-n.n c.loop-n.invariant c.unit.ensures
