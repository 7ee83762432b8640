use Rattle.std.proofs.Common.{◌≡◌, List, [], ◌∷◌, refl, ap, ◌∙◌}
use Rattle.wac_parser_lexer.specs.Items.{Input, input_of}
use Rattle.wac_parser_lexer.specs.Refused.{first_refused}
use Rattle.wac_parser_tree.specs.Trees as t
use Rattle.wac_parser_grammar.specs.Rules.{IsAll}
use Rattle.wac_parser_grammar.specs.Documents.{document, statement}
use Rattle.wac_parser_grammar.proofs.DocumentLaws.{document_exact, read_by}
use Rattle.wac_parser_grammar.proofs.laws.documents_are_read.Goals as goal

all_ends : (xs : List t.Statement) (s r : Input) → IsAll statement.Is xs s r → r.items ≡ []
all_ends [] s r h = ap (λ (m : Input). m.items) h.1 ∙ h.0
all_ends (x ∷ xs) s r h = all_ends xs h.0 r h.2

document_ends : (d : t.Document) (s r : Input) → document.Is d s r → r.items ≡ []
unfolding document
document_ends d s r h =
    let all = all_ends h.3.3.0 h.3.1 h.3.3.1 h.3.3.2 in ap (λ (m : Input). m.items) h.3.3.3.1 ∙ all

pub returns : goal.returns
returns c = λ source d. (
  (λ e.
      let b = read_by (first_refused source) (document.read (input_of source)) d e in
      let is = document_exact.sound (input_of source) d b.1 b.2 in
      (b.0, b.1, document_ends d (input_of source) b.1 is, is)),
  (λ h. rw (h.0, document_exact.complete (input_of source) d h.1 h.3) refl),
)
