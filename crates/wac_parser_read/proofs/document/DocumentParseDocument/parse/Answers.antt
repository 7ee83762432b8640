use Rattle.wac_parser_read.proofs.Parsing.{parsed, stood}
use Rattle.wac_parser_read.proofs.document.DocumentParseDocument.parse.Goals as goal

pub returns-clause-parsed : goal.returns-clause-parsed
returns-clause-parsed c = parsed c.documents_are_their_forms.ensures c.args.source.now c.whole_document.result c.whole_document.ensures

pub returns-clause-stands : goal.returns-clause-stands
returns-clause-stands c = stood c.document_faults_stand.ensures c.args.source.now c.whole_document.result c.whole_document.ensures
