use Rattle.wac_graph_core.specs.declared.tie.Tie.{Tie}
use Rattle.wac_graph_core.specs.Edges.{dependency_edge}
use Rattle.wac_graph_core.proofs.Placing.{users_begin, users_ready, users_next, all_put}
use Rattle.wac_graph_core.proofs.places.put_users.Goals as goal

pub loop-target-init : goal.loop-target-init
loop-target-init c = users_begin c.args.ties.now.items c.args.targets.now c.args.node c.requires

pub put_dependant-requires : goal.put_dependant-requires
put_dependant-requires c = users_ready c.args.ties.now.items c.args.targets.now c.args.node c.loop-target.ties.items c.loop-target.target-index (Tie.Dependency c.target-item.result) c.loop-target-test.true c.loop-target.invariant

pub loop-target-preserved : goal.loop-target-preserved
loop-target-preserved c = users_next c.args.ties.now.items c.args.targets.now c.args.node c.loop-target.ties.items c.put_dependant.new.ties.items c.loop-target.target-index c.target-item.result c.loop-target-test.true c.target-item.is c.put_dependant.ensures c.loop-target.invariant

pub returns : goal.returns
returns c = all_put (λ b. dependency_edge c.args.node b) c.args.ties.now.items c.loop-target.ties.items c.args.targets.now c.loop-target.target-index c.loop-target.invariant.put c.loop-target-test.false
