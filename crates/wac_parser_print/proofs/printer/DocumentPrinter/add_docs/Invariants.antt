use Rattle.std.proofs.Common.{map, take}
use Rattle.wac_parser_tree.specs.Views.{view_doc_comment}
use Rattle.wac_parser_print.specs.Texts.{each, ended}
use Rattle.wac_parser_print.specs.Printing as text
use Rattle.wac_parser_print.specs.Printers.{Adds}
use Rattle.wac_parser_print.proofs.printer.DocumentPrinter.add_docs.Given as goal

abbrev pub invariant-loop-doc : goal.invariant-loop-doc
invariant-loop-doc g l = Adds l.initial.self (each (text.doc l.level) (map view_doc_comment (take l.doc-index l.docs))) l.self
