use Rattle.std.proofs.Common.{◌≡◌, map, take}
use Rattle.wac_parser_lexer.specs.Docs.{doc_of}
use Rattle.wac_parser_tree.specs.Views.{view_doc_comment}
use Rattle.wac_parser_grammar.specs.Names.{doc_comment}
use Rattle.wac_parser_terms.proofs.text.docs_of.Given as goal

abbrev pub invariant-loop-c : goal.invariant-loop-c
invariant-loop-c l = map view_doc_comment l.docs.items ≡ map doc_comment (map doc_of (take l.c-index l.comments))
