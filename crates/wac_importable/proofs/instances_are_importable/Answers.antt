use Rattle.wac_importable.proofs.Documents.{document_importable, graph_importable}
use Rattle.wac_importable.proofs.instances_are_importable.Goals as goal

pub returns-clause-documents : goal.returns-clause-documents
returns-clause-documents c = λ source text d read. document_importable source d (c.parsed_paths_stand.ensures.document source text d read)

pub returns-clause-graphs : goal.returns-clause-graphs
returns-clause-graphs c = λ source text d read ps r resolved g at b.
    graph_importable g at r.0 b (document_importable source d (c.parsed_paths_stand.ensures.document source text d read) ps r resolved)
