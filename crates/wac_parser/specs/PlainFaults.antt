-- What a refusal says of the forms.
use Rattle.std.specs.Prelude.{◌≡◌, ◌≢◌, ℕ, List, Err}
use Rattle.wac_parser_lexer.specs.declared.span.SourceSpan.{SourceSpan}
use Rattle.wac_parser_tree.specs.Trees as t
use Rattle.wac_parser_grammar.specs.Faults.{Fault, nested_too_deep}
use Rattle.wac_parser_grammar.specs.Reads.{read_source}
use Rattle.wac_parser_grammar.specs.Documents as s
use Rattle.wac_parser_grammar.specs.FormsOfDeclarations.{IsDocumentOf}

-- any fault but that of a type or an expression nested too deep
abbrev pub IsPlain : Fault → Type 0
IsPlain fault = (span : SourceSpan) → fault ≢ nested_too_deep span

-- A source that is refused by a plain fault spells no tree by the forms, which know no bound of depth.
abbrev pub PlainFaultsLeaveNoTree : Type 0
PlainFaultsLeaveNoTree = (source : List ℕ) (fault : Fault) → read_source s.document source ≡ Err fault → IsPlain fault
    → (x : t.Document) → IsDocumentOf x source → ⊥
