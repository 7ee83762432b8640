use Rattle.std.proofs.Common.{◌≡◌, ◌⊎◌, inl, inr, Option, Some, None, Result, Ok, Err, refl, ap, sym}
use Rattle.wac_parser_lexer.specs.declared.span.SourceSpan.{SourceSpan}
use Rattle.wac_parser_lexer.specs.declared.error.Error.{Error}
use Rattle.wac_parser_lexer.specs.Items.{Input, input_of}
use Rattle.wac_parser_lexer.specs.Refused.{first_refused}
use Rattle.wac_parser_tree.specs.Trees as t
use Rattle.wac_parser_grammar.specs.Faults.{Fault, lexer}
use Rattle.wac_parser_grammar.specs.Reads.{by_refusal}
use Rattle.wac_parser_grammar.specs.Documents.{document}
use Rattle.wac_parser_grammar.proofs.DocumentFaults.{document_faithful}
use Rattle.wac_parser_grammar.proofs.laws.document_faults_stand.Goals as goal

fault_by : (o : Option (Error × SourceSpan)) (r : Result (t.Document × Input) Fault) (f : Fault) → by_refusal o r ≡ Err f → ((e : Error × SourceSpan) × (o ≡ Some e) × (f ≡ lexer e.0 e.1)) ⊎ (r ≡ Err f)
fault_by (Some e) r f h = inl (e, refl, (let same : lexer e.0 e.1 ≡ f = cc in sym same))
fault_by None (Ok p) f h = cc
fault_by None (Err g) f h = inr (let same : g ≡ f = cc in ap Err same)

pub returns : goal.returns
returns c = λ source f h. elim (fault_by (first_refused source) (document.read (input_of source)) f h) [
  | inl w ↦ inl w
  | inr w ↦ inr (document_faithful.stands (input_of source) f tt w)
]
