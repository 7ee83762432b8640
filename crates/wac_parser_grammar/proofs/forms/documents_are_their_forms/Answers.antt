-- What is read has the forms and fits, and what has the forms and fits is read.
use Rattle.wac_parser_lexer.specs.Items.{input_of}
use Rattle.wac_parser_grammar.proofs.TableDocuments.{document_within}
use Rattle.wac_parser_grammar.proofs.TableBackDocuments.{document_back}
use Rattle.wac_parser_grammar.proofs.FitsDocuments.{document_fits}
use Rattle.wac_parser_grammar.proofs.forms.documents_are_their_forms.Goals as goal

pub returns : goal.returns
returns c = λ source x. (
  (λ read.
      let is = (c.documents_are_read.ensures source x).0 read in
      (document_fits.fits (input_of source) x is.1 is.3, (is.0, is.1, is.2, document_within.within (input_of source) x is.1 is.3))),
  (λ h. (c.documents_are_read.ensures source x).1 (h.1.0, h.1.1, h.1.2, document_back (input_of source) x h.1.1 h.0 h.1.3 h.1.2)),
)
