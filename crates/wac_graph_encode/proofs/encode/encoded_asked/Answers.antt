use Rattle.wac_graph_encode.proofs.Circling.{packages_stand}
use Rattle.wac_graph_encode.proofs.encode.encoded_asked.Goals as goal

pub returns-clause-imports : goal.returns-clause-imports
returns-clause-imports c = c.in_ok-bytes.ensures.imports c.requires.prepared (c.in_ok-bytes.ensures.apart c.requires.prepared)

pub bytes_asked-requires-clause-packages : goal.bytes_asked-requires-clause-packages
bytes_asked-requires-clause-packages c = packages_stand c.args.graph.now c.args.asked.now c.args.outers.now c.requires.prepared
