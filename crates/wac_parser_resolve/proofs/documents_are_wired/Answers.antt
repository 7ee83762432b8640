use Rattle.wac_parser_resolve.proofs.Documents.{documents_are_wired, resolved_are_wired}
use Rattle.wac_parser_resolve.proofs.documents_are_wired.Goals as goal

pub returns-clause-accepted : goal.returns-clause-accepted
returns-clause-accepted c = documents_are_wired

pub returns-clause-resolved : goal.returns-clause-resolved
returns-clause-resolved c = resolved_are_wired
