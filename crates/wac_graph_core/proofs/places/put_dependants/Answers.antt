use Rattle.wac_graph_core.proofs.Placing.{sources_begin, sources_next, all_put}
use Rattle.wac_graph_core.proofs.Following.{here}
use Rattle.wac_graph_core.specs.Edges.{dependency_edge}
use Rattle.wac_graph_core.proofs.places.put_dependants.Goals as goal

pub loop-source-init : goal.loop-source-init
loop-source-init c = sources_begin c.args.ties.now.items c.args.sources.now c.args.node c.requires

pub put_dependant-requires : goal.put_dependant-requires
put_dependant-requires c = c.loop-source.invariant.ready c.source-item.result (here c.args.sources.now c.loop-source.source-index c.source-item.result c.loop-source-test.true c.source-item.is)

pub loop-source-preserved : goal.loop-source-preserved
loop-source-preserved c = sources_next c.args.ties.now.items c.args.sources.now c.args.node c.loop-source.ties.items c.put_dependant.new.ties.items c.loop-source.source-index c.source-item.result c.loop-source-test.true c.source-item.is c.put_dependant.ensures c.loop-source.invariant

pub returns-clause-edges : goal.returns-clause-edges
returns-clause-edges c = all_put (λ a. dependency_edge a c.args.node) c.args.ties.now.items c.loop-source.ties.items c.args.sources.now c.loop-source.source-index c.loop-source.invariant.put c.loop-source-test.false

pub returns-clause-rooms : goal.returns-clause-rooms
returns-clause-rooms c = c.loop-source.invariant.rooms
