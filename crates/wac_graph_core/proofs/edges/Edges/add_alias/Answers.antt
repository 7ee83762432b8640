use Rattle.std.proofs.Common.{◌≡◌, ◌⊎◌, ℕ, sym, subst}
use Rattle.wac_types_base.specs.Graph.{Among}
use Rattle.wac_types_base.specs.Entries.{Name}
use Rattle.wac_graph_core.specs.Edges.{AreEdges, HasAlias, alias_edge}
use Rattle.wac_graph_core.specs.Ties.{edges_in}
use Rattle.wac_graph_core.proofs.Placing.{roomier_on}
use Rattle.wac_graph_core.proofs.EdgeOps.{tied_roomier, same_after, on_err, sourced_ready, alias_edges, alias_tied}
use Rattle.wac_graph_core.proofs.edges.Edges.add_alias.Goals as goal

pub invariant_of-self : goal.invariant_of-self
invariant_of-self c = tied_roomier c.self.inside.ties.items c.make_places.new.ties.items c.make_places.ensures.same c.self.invariant

pub returns-in_err-make_places-clause-kept : goal.returns-in_err-make_places-clause-kept
returns-in_err-make_places-clause-kept c = on_err c.from_residual.result (same_after c.self.inside.ties.items c.make_places.new.ties.items c.args.self.now c.make_places.ensures.same c.self.view_is)

pub invariant_of-self-in_err-make_room : goal.invariant_of-self-in_err-make_room
invariant_of-self-in_err-make_room c =
    tied_roomier c.self.inside.ties.items c.make_room.new.ties.items (roomier_on c.self.inside.ties.items c.make_places.new.ties.items c.make_room.new.ties.items c.make_places.ensures.same c.make_room.ensures.same) c.self.invariant

pub returns-in_err-make_room-clause-kept : goal.returns-in_err-make_room-clause-kept
returns-in_err-make_room-clause-kept c =
    on_err c.from_residual-in_err-make_room.result
    (same_after c.self.inside.ties.items c.make_room.new.ties.items c.args.self.now (roomier_on c.self.inside.ties.items c.make_places.new.ties.items c.make_room.new.ties.items c.make_places.ensures.same c.make_room.ensures.same) c.self.view_is)

pub put_dependant-requires : goal.put_dependant-requires
put_dependant-requires c = sourced_ready c.make_room.new.ties.items c.set_source.new.ties.items c.args.alias c.args.instance c.args.name c.set_source.ensures c.args.instance c.args.tie c.in_ok-make_room.ensures.room

pub invariant_of-self-2 : goal.invariant_of-self-2
invariant_of-self-2 c =
    let ts = c.self.inside.ties.items in
    let roomier = roomier_on ts c.make_places.new.ties.items c.make_room.new.ties.items c.make_places.ensures.same c.make_room.ensures.same in
    alias_tied ts c.make_room.new.ties.items c.set_source.new.ties.items c.put_dependant.new.ties.items c.args.instance c.args.alias c.args.name c.args.tie c.requires.tie roomier c.set_source.ensures c.put_dependant.ensures
    (subst (λ es. (k : ℕ) → HasAlias es c.args.instance c.args.name k → ⊥) (sym c.self.view_is) c.requires.none)
    (subst (λ es. (i : ℕ) (n : Name) → HasAlias es i n c.args.alias → ⊥) (sym c.self.view_is) c.requires.free) c.self.invariant

pub returns-clause-added : goal.returns-clause-added
returns-clause-added c =
    let ts = c.self.inside.ties.items in
    let roomier = roomier_on ts c.make_places.new.ties.items c.make_room.new.ties.items c.make_places.ensures.same c.make_room.ensures.same in
    subst (λ es. AreEdges (edges_in c.put_dependant.new.ties.items) (λ d. Among d es ⊎ (d ≡ alias_edge c.args.instance c.args.alias c.args.name))) c.self.view_is
    (alias_edges ts c.make_room.new.ties.items c.set_source.new.ties.items c.put_dependant.new.ties.items c.args.instance c.args.alias c.args.name c.args.tie c.requires.tie roomier c.set_source.ensures c.put_dependant.ensures
    (subst (λ es. (k : ℕ) → HasAlias es c.args.instance c.args.name k → ⊥) (sym c.self.view_is) c.requires.none))
