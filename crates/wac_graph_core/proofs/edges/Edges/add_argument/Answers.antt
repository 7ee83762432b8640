use Rattle.std.proofs.Common.{◌≡◌, ◌⊎◌, ℕ, ap, sym, ◌∙◌, subst}
use Rattle.std.specs.Prelude.{string_bytes}
use Rattle.wac_types_base.specs.Graph.{Among}
use Rattle.wac_graph_core.specs.declared.tie.Tie.{Tie}
use Rattle.wac_graph_core.specs.Edges.{AreEdges, HasArgument, argument_edge}
use Rattle.wac_graph_core.specs.Ties.{edges_in}
use Rattle.wac_graph_core.proofs.Placing.{roomier_on}
use Rattle.wac_graph_core.proofs.EdgeOps.{tied_roomier, same_after, on_err, none_here, passed_ready, argument_edges, argument_tied}
use Rattle.wac_graph_core.proofs.edges.Edges.add_argument.Goals as goal

pub invariant_of-self : goal.invariant_of-self
invariant_of-self c = tied_roomier c.self.inside.ties.items c.make_argument_room.new.ties.items c.make_argument_room.ensures.same c.self.invariant

pub returns-in_err-make_argument_room-clause-kept : goal.returns-in_err-make_argument_room-clause-kept
returns-in_err-make_argument_room-clause-kept c = on_err c.from_residual-in_err-make_argument_room.result (same_after c.self.inside.ties.items c.make_argument_room.new.ties.items c.args.self.now c.make_argument_room.ensures.same c.self.view_is)

pub invariant_of-self-in_err-make_room : goal.invariant_of-self-in_err-make_room
invariant_of-self-in_err-make_room c =
    tied_roomier c.self.inside.ties.items c.make_room.new.ties.items (roomier_on c.self.inside.ties.items c.make_argument_room.new.ties.items c.make_room.new.ties.items c.make_argument_room.ensures.same c.make_room.ensures.same) c.self.invariant

pub returns-in_err-make_room-clause-kept : goal.returns-in_err-make_room-clause-kept
returns-in_err-make_room-clause-kept c =
    on_err c.from_residual-in_err-make_room.result
    (same_after c.self.inside.ties.items c.make_room.new.ties.items c.args.self.now (roomier_on c.self.inside.ties.items c.make_argument_room.new.ties.items c.make_room.new.ties.items c.make_argument_room.ensures.same c.make_room.ensures.same) c.self.view_is)

pub put_argument-requires-clause-room : goal.put_argument-requires-clause-room
put_argument-requires-clause-room c = c.make_room.ensures.same.places c.args.instantiation c.in_ok-make_argument_room.ensures.room

pub put_argument-requires-clause-none : goal.put_argument-requires-clause-none
put_argument-requires-clause-none c =
    let ts = c.self.inside.ties.items in
    let roomier = roomier_on ts c.make_argument_room.new.ties.items c.make_room.new.ties.items c.make_argument_room.ensures.same c.make_room.ensures.same in
    none_here ts c.make_room.new.ties.items c.args.instantiation (string_bytes c.args.name) roomier c.self.invariant (subst (λ es. (a : ℕ) → HasArgument es c.args.instantiation (string_bytes c.args.name) a → ⊥) (sym c.self.view_is) c.requires)

pub put_dependant-requires : goal.put_dependant-requires
put_dependant-requires c = passed_ready c.make_room.new.ties.items c.put_argument.new.ties.items c.args.instantiation c.args.argument (string_bytes c.args.name) c.put_argument.ensures c.args.argument _ c.in_ok-make_room.ensures.room

pub invariant_of-self-2 : goal.invariant_of-self-2
invariant_of-self-2 c =
    let ts = c.self.inside.ties.items in
    let roomier = roomier_on ts c.make_argument_room.new.ties.items c.make_room.new.ties.items c.make_argument_room.ensures.same c.make_room.ensures.same in
    argument_tied ts c.make_room.new.ties.items c.put_argument.new.ties.items c.put_dependant.new.ties.items c.args.argument c.args.instantiation (string_bytes c.args.name) (Tie.Argument c.args.instantiation c.in_ok-own.own) (ap (Tie.Argument c.args.instantiation) (c.in_ok-own.ensures ∙ c.as_str.ensures.value)) roomier c.put_argument.ensures c.put_dependant.ensures c.self.invariant

pub returns-clause-added : goal.returns-clause-added
returns-clause-added c =
    let ts = c.self.inside.ties.items in
    let roomier = roomier_on ts c.make_argument_room.new.ties.items c.make_room.new.ties.items c.make_argument_room.ensures.same c.make_room.ensures.same in
    subst (λ es. AreEdges (edges_in c.put_dependant.new.ties.items) (λ d. Among d es ⊎ (d ≡ argument_edge c.args.argument c.args.instantiation (string_bytes c.args.name)))) c.self.view_is
    (argument_edges ts c.make_room.new.ties.items c.put_argument.new.ties.items c.put_dependant.new.ties.items c.args.argument c.args.instantiation (string_bytes c.args.name) (Tie.Argument c.args.instantiation c.in_ok-own.own) (ap (Tie.Argument c.args.instantiation) (c.in_ok-own.ensures ∙ c.as_str.ensures.value)) roomier c.put_argument.ensures c.put_dependant.ensures)
