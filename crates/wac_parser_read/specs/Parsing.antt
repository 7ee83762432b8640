-- What is answered of a whole source.
use Rattle.std.specs.Prelude.{◌≢◌, ◌<◌, ◌≤◌, Bool, true, false, List, ℕ, Result, Ok, Err}
use Rattle.wac_parser_lexer.specs.Items.{Input}
use Rattle.wac_parser_tree.specs.Trees as t
use Rattle.wac_parser_tree.specs.declared.document.Document.{Document}
use Rattle.wac_parser_tree.specs.Views.{view_document}
use Rattle.wac_parser_grammar.specs.declared.error.Error.{Error}
use Rattle.wac_parser_grammar.specs.declared.error.Error.TheVariants.{Memory}
use Rattle.wac_parser_grammar.specs.Rules.{left}
use Rattle.wac_parser_grammar.specs.FormDepths.{DocumentFits}
use Rattle.wac_parser_grammar.specs.FormsOfDeclarations.{IsDocumentOf}

-- the source spells the document, which stays within the limits
abbrev pub IsSpelled : t.Document → List ℕ → Type 0
IsSpelled x source = DocumentFits x × IsDocumentOf x source

-- the document that is spelled, or a fault where none is; want of memory says nothing
abbrev pub Parses : List ℕ → Result Document Error → Type 0
Parses source (Ok d) = IsSpelled (view_document d) source
Parses source (Err e) = e ≢ Memory → (x : t.Document) → IsSpelled x source → ⊥

-- Fewer items are left where a part has at least one, and else no more.
abbrev pub LeavesFewer : Bool → Input → Input → Type 0
LeavesFewer true r s = left r < left s
LeavesFewer false r s = left r ≤ left s
