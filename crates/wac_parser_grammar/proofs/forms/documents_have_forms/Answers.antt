use Rattle.wac_parser_lexer.specs.Items.{input_of}
use Rattle.wac_parser_grammar.proofs.TableDocuments.{document_within}
use Rattle.wac_parser_grammar.proofs.forms.documents_have_forms.Goals as goal

pub returns : goal.returns
returns c = λ d source h. (h.0, h.1, h.2, document_within.within (input_of source) d h.1 h.3)
