use Rattle.std.proofs.Common.{ap, ◌∙◌}
use Rattle.std.proofs.lemmas.List.{take_all}
use Rattle.wac_graph_core.specs.Edges.{has}
use Rattle.wac_graph_core.proofs.Placing.{roomier_self, roomier_on, rooms_next}
use Rattle.wac_graph_core.proofs.places.make_rooms.Goals as goal

pub loop-node-init : goal.loop-node-init
loop-node-init c = (roomier_self c.args.ties.now.items, λ k h. absurd (cc h))

pub loop-node-preserved : goal.loop-node-preserved
loop-node-preserved c = (
  roomier_on c.args.ties.now.items c.loop-node.ties.items c.make_room.new.ties.items c.loop-node.invariant.0 c.make_room.ensures.same,
  rooms_next c.loop-node.ties.items c.make_room.new.ties.items c.args.nodes.now c.loop-node.node-index c.node-item.result c.loop-node-test.true c.node-item.is c.make_room.ensures.same c.in_ok-make_room.ensures.room c.loop-node.invariant.1,
)

pub returns-in_err-make_room-clause-same : goal.returns-in_err-make_room-clause-same
returns-in_err-make_room-clause-same c = roomier_on c.args.ties.now.items c.loop-node.ties.items c.make_room.new.ties.items c.loop-node.invariant.0 c.make_room.ensures.same

pub returns-clause-same : goal.returns-clause-same
returns-clause-same c = c.loop-node.invariant.0

pub returns-clause-room : goal.returns-clause-room
returns-clause-room c = λ k h. c.loop-node.invariant.1 k (ap (λ l. has l k) (take_all c.loop-node.node-index c.args.nodes.now c.loop-node-test.false) ∙ h)
