use Rattle.std.proofs.Common.{length, subst}
use Rattle.wac_graph_core.specs.Ties.{edges_in, AddsDependencies}
use Rattle.wac_graph_core.proofs.Placing.{roomier_on}
use Rattle.wac_graph_core.proofs.EdgeOps.{tied_roomier, same_after, on_err, dependencies_added, dependencies_tied}
use Rattle.wac_graph_core.proofs.edges.Edges.add_dependencies.Goals as goal

pub invariant_of-self : goal.invariant_of-self
invariant_of-self c = tied_roomier c.self.inside.ties.items c.make_room.new.ties.items c.make_room.ensures.same c.self.invariant

pub returns-in_err-make_room-clause-kept : goal.returns-in_err-make_room-clause-kept
returns-in_err-make_room-clause-kept c = on_err c.from_residual.result (same_after c.self.inside.ties.items c.make_room.new.ties.items c.args.self.now c.make_room.ensures.same c.self.view_is)

pub invariant_of-self-in_err-make_rooms : goal.invariant_of-self-in_err-make_rooms
invariant_of-self-in_err-make_rooms c =
    tied_roomier c.self.inside.ties.items c.make_rooms.new.ties.items (roomier_on c.self.inside.ties.items c.make_room.new.ties.items c.make_rooms.new.ties.items c.make_room.ensures.same c.make_rooms.ensures.same) c.self.invariant

pub returns-in_err-make_rooms-clause-kept : goal.returns-in_err-make_rooms-clause-kept
returns-in_err-make_rooms-clause-kept c =
    on_err c.from_residual-in_err-make_rooms.result
    (same_after c.self.inside.ties.items c.make_rooms.new.ties.items c.args.self.now (roomier_on c.self.inside.ties.items c.make_room.new.ties.items c.make_rooms.new.ties.items c.make_room.ensures.same c.make_rooms.ensures.same) c.self.view_is)

pub put_users-requires : goal.put_users-requires
put_users-requires c = c.put_dependants.ensures.rooms c.args.node (length c.args.targets.now) c.requires (c.make_rooms.ensures.same.rooms c.args.node (length c.args.targets.now) c.in_ok-make_room.ensures.room)

pub invariant_of-self-2 : goal.invariant_of-self-2
invariant_of-self-2 c =
    let ts = c.self.inside.ties.items in
    let roomier = roomier_on ts c.make_room.new.ties.items c.make_rooms.new.ties.items c.make_room.ensures.same c.make_rooms.ensures.same in
    dependencies_tied ts c.make_rooms.new.ties.items c.put_dependants.new.ties.items c.put_users.new.ties.items c.args.node c.args.sources.now c.args.targets.now roomier c.put_dependants.ensures.edges c.put_users.ensures c.self.invariant

pub returns-clause-added : goal.returns-clause-added
returns-clause-added c =
    let ts = c.self.inside.ties.items in
    let roomier = roomier_on ts c.make_room.new.ties.items c.make_rooms.new.ties.items c.make_room.ensures.same c.make_rooms.ensures.same in
    subst (λ es. AddsDependencies es (edges_in c.put_users.new.ties.items) c.args.node c.args.sources.now c.args.targets.now) c.self.view_is
    (dependencies_added ts c.make_rooms.new.ties.items c.put_dependants.new.ties.items c.put_users.new.ties.items c.args.node c.args.sources.now c.args.targets.now roomier c.put_dependants.ensures.edges c.put_users.ensures)
