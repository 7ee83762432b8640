use Rattle.wac_graph_scopes.proofs.UsePlaceLaws.{set_next}
use Rattle.wac_graph_scopes.proofs.order.set_of.Goals as goal

pub loop-at-preserved : goal.loop-at-preserved
loop-at-preserved c distinct =
    set_next c.args.places.now c.loop-at.at-index c.loop-at.set.keys c.insert.new.self.keys c.loop-at-test.true distinct (c.loop-at.invariant distinct) c.in_ok-insert.ensures.keys
