-- A document by the forms is read, or refused as nested too deep; a plain fault is neither.
use Rattle.std.proofs.Common.{◌≡◌, ℕ, List, None, Result, Ok, Err, refl, sym, ◌∙◌}
use Rattle.wac_parser_lexer.specs.Items.{Input, input_of}
use Rattle.wac_parser_lexer.specs.Refused.{first_refused}
use Rattle.wac_parser_tree.specs.Trees as t
use Rattle.wac_parser_grammar.specs.Faults.{Fault, nested_too_deep}
use Rattle.wac_parser_grammar.specs.Reads.{read_source}
use Rattle.wac_parser_grammar.specs.Documents.{document}
use Rattle.wac_parser.specs.PlainFaults.{IsPlain}
use Rattle.wac_parser.proofs.OrDeep.{Meets, met, deep}
use Rattle.wac_parser.proofs.DocumentsOrDeep.{document_met}
use Rattle.wac_parser.proofs.plain.plain_faults_leave_no_tree.Goals as goal

no_both : {A : Type 0} (x : A) (fault : Fault) → ◌≡◌ {A = Result A Fault} (Ok x) (Err fault) → ⊥
no_both x fault e = cc

same_fault : {A : Type 0} (f g : Fault) → ◌≡◌ {A = Result A Fault} (Err f) (Err g) → f ≡ g
same_fault f g e = cc

neither : (source : List ℕ) (fault : Fault) (x : t.Document) (end : Input) → first_refused source ≡ None → read_source document source ≡ Err fault → IsPlain fault
    → Meets document (input_of source) x end → ⊥
neither source fault x end none read plain (met h) =
    let taken : read_source document source ≡ Ok x = rw (none, h) refl in no_both x fault (sym taken ∙ read)
neither source fault x end none read plain (deep span h) =
    let refused : read_source document source ≡ Err (nested_too_deep span) = rw (none, h) refl in
    plain span (sym (same_fault {A = t.Document} (nested_too_deep span) fault (sym refused ∙ read)))

pub returns : goal.returns
returns c = λ source fault read plain x h. neither source fault x h.1 h.0 read plain (document_met (input_of source) x h.1 h.3 h.2)
