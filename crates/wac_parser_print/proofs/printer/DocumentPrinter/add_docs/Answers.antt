use Rattle.wac_parser_tree.specs.Views.{view_doc_comment}
use Rattle.wac_parser_print.specs.Texts.{ended}
use Rattle.wac_parser_print.specs.Printing as text
use Rattle.wac_parser_print.specs.Printing.{docs}
use Rattle.wac_parser_print.proofs.Adding.{and_then, each_start, each_copied, each_end}
use Rattle.wac_parser_print.proofs.printer.DocumentPrinter.add_docs.Goals as goal

pub loop-doc-init : goal.loop-doc-init
loop-doc-init g c = each_start view_doc_comment (text.doc c.args.level) _

pub loop-doc-preserved : goal.loop-doc-preserved
loop-doc-preserved g c = each_copied view_doc_comment (text.doc c.args.level) c.args.docs.now c.loop-doc.doc-index _ c.loop-doc-test.true c.loop-doc.invariant c.add_doc.ensures

pub returns : goal.returns
unfolding docs
returns g c = each_end view_doc_comment (text.doc c.args.level) c.args.docs.now c.loop-doc.doc-index c.loop-doc-test.false c.loop-doc.invariant
