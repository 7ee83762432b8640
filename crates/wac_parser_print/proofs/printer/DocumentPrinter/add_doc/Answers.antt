use Rattle.std.proofs.Common.{ℕ, List, Bor, map, ap, sym, subst, ◌∙◌}
use Rattle.std.proofs.lemmas.Iterator.Splits.{YieldsList-from_lines}
use Rattle.std.proofs.lemmas.Iterator.Consumers.{YieldsList-end}
use Rattle.wac_parser_print.specs.Texts.{each}
use Rattle.wac_parser_print.specs.Printers.{Adds}
use Rattle.wac_parser_print.specs.Printing as text
use Rattle.wac_parser_print.specs.Printing.{doc}
use Rattle.wac_parser_print.proofs.Adding.{each_start, each_push, of_view}
use Rattle.wac_parser_print.proofs.printer.DocumentPrinter.add_doc.Goals as goal

pub loop-line-init : goal.loop-line-init
loop-line-init g c = each_start (λ (x : Bor (List ℕ)). x.now) (text.doc_line c.args.level) _

pub loop-line-preserved : goal.loop-line-preserved
loop-line-preserved g c = each_push (λ (x : Bor (List ℕ)). x.now) (text.doc_line c.args.level) c.loop-line.yielded c.in-Some.line c.loop-line.invariant c.add_doc_line.ensures

pub returns : goal.returns
unfolding doc
returns g c =
    let t = YieldsList-end (YieldsList-from_lines c.args.doc.now.comment.now cc) c.loop-line.yielded _ c.loop-line.yielded_by _ _ c.in-None.is c.next.ensures.steps in
    of_view (each (text.doc_line c.args.level)) (sym t.0) c.loop-line.invariant
