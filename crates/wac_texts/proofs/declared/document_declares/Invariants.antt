use Rattle.std.proofs.Common.{◌≡◌, map, drop}
use Rattle.wac_parser_tree.specs.Views.{view_document, view_statement}
use Rattle.wac_texts.specs.Declarations.{declared_among, declared_in}
use Rattle.wac_texts.proofs.declared.document_declares.Given as goal

-- the statements so far declare nothing under the name
abbrev pub invariant-loop-statement : goal.invariant-loop-statement
invariant-loop-statement l =
    declared_in (view_document l.document) l.name
    ≡ declared_among (map view_statement (drop l.statement-index l.statement-items)) l.name
