use Rattle.std.specs.Map.{keys_of}
use Rattle.wac_types_base.proofs.Loops.{get-place}
use Rattle.wac_graph_asks.proofs.Naming.{placed_first, placed_more, placed_all}
use Rattle.wac_graph_asks.proofs.outers.put_places.Goals as goal

pub loop-at-init : goal.loop-at-init
loop-at-init c = placed_first c.args.asks.now c.args.labels.now (keys_of c.args.taken.now.entries) c.args.places.now c.requires

pub loop-at-preserved : goal.loop-at-preserved
loop-at-preserved c =
    placed_more c.args.asks.now c.args.labels.now (keys_of c.args.taken.now.entries) c.loop-at.at c.place_at.result c.index-asks-at.result c.loop-at.places c.put_place.new.places
    (get-place c.args.asks.now c.loop-at.at c.index-asks-at.result c.loop-at-test.true c.index-asks-at.is) c.place_at.ensures c.in_ok-put_place.ensures c.loop-at.invariant

pub returns : goal.returns
returns c = placed_all c.args.asks.now c.args.labels.now (keys_of c.args.taken.now.entries) c.loop-at.at c.loop-at.places c.loop-at-test.false c.loop-at.invariant
