use Rattle.wac_graph_core.proofs.Following.{begins, next_tie, all_followed}
use Rattle.wac_graph_core.proofs.edge.follow_from.Goals as goal

pub loop-tie-init : goal.loop-tie-init
loop-tie-init c = begins c.args.follow c.args.edges.now c.args.node c.args.seen.now

pub loop-tie-preserved : goal.loop-tie-preserved
loop-tie-preserved c = next_tie c.args.follow c.args.edges.now c.args.node c.args.seen.now c.dependants_of-tie-items.result.now c.dependants_of-tie-items.ensures c.loop-tie.seen c.follow_tie.new.seen c.loop-tie.tie-index c.loop-tie-item.result c.loop-tie-test.true c.loop-tie-item.is c.in_ok-follow_tie.ensures c.loop-tie.invariant

pub returns : goal.returns
returns c = all_followed c.args.follow c.args.edges.now c.args.node c.args.seen.now c.dependants_of-tie-items.result.now c.dependants_of-tie-items.ensures c.loop-tie.seen c.loop-tie.tie-index c.loop-tie-test.false c.loop-tie.invariant
