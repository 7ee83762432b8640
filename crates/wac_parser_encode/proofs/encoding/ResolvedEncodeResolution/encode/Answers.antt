use Rattle.std.proofs.Common.{subst}
use Rattle.wac_graph_core.specs.Graph.{Graph}
use Rattle.wac_graph_encode.specs.Finished.{MeansImported}
use Rattle.wac_parser_resolve.specs.Resolved.{graph_of, places_of}
use Rattle.wac_parser_encode.specs.Refused.{HasSource}
use Rattle.wac_parser_encode.proofs.Refused.{refuses}
use Rattle.wac_parser_encode.proofs.encoding.ResolvedEncodeResolution.encode.Goals as goal

pub returns-in-Ok-clause-imports : goal.returns-in-Ok-clause-imports
returns-in-Ok-clause-imports g c = subst (λ (x : Graph). MeansImported x c.args.options c.in-Ok.bytes.items) c.graph.ensures c.in-Ok.ensures.imports

pub returns-in-Err-clause-refused : goal.returns-in-Err-clause-refused
returns-in-Err-clause-refused g c =
    refuses c.graph.result.now (graph_of c.args.self.now) c.args.options (places_of c.args.self.now) c.in-Err.fault c.fault_of.result c.graph.ensures c.fault_of.ensures.fault c.in-Err.ensures.refused

pub returns-in-Err-clause-source : goal.returns-in-Err-clause-source
returns-in-Err-clause-source g c = c.fault_of.ensures.source (graph_of c.args.self.now) (subst (λ (x : Graph). HasSource x c.in-Err.fault) c.graph.ensures c.in-Err.ensures.source)
