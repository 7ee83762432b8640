use Rattle.std.proofs.Common.{refl, arith}
use Rattle.wac_graph_core.proofs.Placing.{at_index, roomier_at, place_at}
use Rattle.wac_graph_core.proofs.places.make_argument_room.Goals as goal

pub returns-clause-same : goal.returns-clause-same
returns-clause-same c =
    let us = c.make_places.new.ties.items in
    let here = at_index us c.args.node c.index.result c.index_mut.result.now c.index.ensures c.in_ok-make_places.ensures.there c.index_mut.ensures.value in
    roomier_at us c.args.node c.index.result c.index_mut.result.now (record c.index_mut.result.now { arguments = c.reserve.new.self }) c.index.ensures here c.args.ties.now.items c.make_places.ensures.same
    refl refl (omega arith) (c.reserve.ensures.items) (c.reserve.ensures.len) (c.reserve.ensures.capacity) refl

pub returns-clause-room : goal.returns-clause-room
returns-clause-room c =
    let us = c.make_places.new.ties.items in
    let here = at_index us c.args.node c.index.result c.index_mut.result.now c.index.ensures c.in_ok-make_places.ensures.there c.index_mut.ensures.value in
    place_at us c.args.node c.index.result c.index_mut.result.now (record c.index_mut.result.now { arguments = c.reserve.new.self }) c.index.ensures here c.reserve.result c.reserve.ensures.room
