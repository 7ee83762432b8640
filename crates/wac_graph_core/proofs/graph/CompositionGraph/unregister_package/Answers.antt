use Rattle.std.proofs.Common.{IsSome, ap, sym, ◌∙◌, refl, subst, slice_set, ◌<◌, length, arith}
use Rattle.wac_graph_core.specs.declared.edge.Follow.{Follow}
use Rattle.wac_graph_core.specs.declared.package.Place.{Place}
use Rattle.wac_graph_core.specs.NodeMaps.{AreInstances}
use Rattle.wac_graph_core.specs.Edges.{IsReached}
use Rattle.wac_graph_core.specs.Graph.{Graph}
use Rattle.wac_graph_core.specs.Removing.{TakesNodes}
use Rattle.wac_graph_core.specs.Packages.{left_place, PlacesGrow}
use Rattle.wac_graph_core.specs.View.{graph}
use Rattle.wac_graph_core.proofs.Removal.{closed_of}
use Rattle.wac_graph_core.proofs.ExportSteps.{got}
use Rattle.wac_graph_core.proofs.Registering.{held_left, given_up_by, unregister_step, stale_step, grow_set, same_places_left}
use Rattle.wac_graph_core.proofs.graph.CompositionGraph.unregister_package.Goals as goal
use Rattle.wac_types_base.proofs.Walking.{some_place}

pub remove_nodes-requires : goal.remove_nodes-requires
remove_nodes-requires c =
    let reached : IsReached Follow.Owned c.args.self.now.edges c.in_ok-instances.instances.items c.in_ok-gone.gone =
    subst (λ es. IsReached Follow.Owned es c.in_ok-instances.instances.items c.in_ok-gone.gone) (ap (λ (g : Graph). g.edges) c.self.view_is) (subst (λ ss. IsReached Follow.Owned c.self.inside.edges ss c.in_ok-gone.gone) (c.in_ok-starts.ensures ∙ c.as_slice.ensures.value) c.in_ok-gone.ensures) in
    (closed_of Follow.Owned c.args.self.now.edges c.in_ok-instances.instances.items c.in_ok-gone.gone reached)

pub index_mut-requires : goal.index_mut-requires
index_mut-requires c =
    let starts = c.in_ok-instances.instances.items in
    let gone = c.in_ok-gone.gone in
    let are = subst (λ (g : Graph). AreInstances g.nodes c.args.«package» starts) c.self.view_is c.in_ok-instances.ensures in
    let reached = subst (λ es. IsReached Follow.Owned es starts gone) (ap (λ (g : Graph). g.edges) c.self.view_is) (subst (λ ss. IsReached Follow.Owned c.self.inside.edges ss c.in_ok-gone.gone) (c.in_ok-starts.ensures ∙ c.as_slice.ensures.value) c.in_ok-gone.ensures) in
    let taken = subst (λ h. TakesNodes c.args.self.now h gone) (sym c.self-2.view_is) c.remove_nodes.ensures in
    let left = held_left c.args.self.now (graph c.self-2.inside) c.args.«package» starts gone are reached taken c.requires in
    let h : c.args.«package».place < length c.self-2.inside.places.items = some_place c.self-2.inside.places.items c.args.«package».place left.2.place left.2.there in
    omega (arith, h, c.self-2.inside.places.ok)

pub give_up-requires : goal.give_up-requires
give_up-requires c =
    let starts = c.in_ok-instances.instances.items in
    let gone = c.in_ok-gone.gone in
    let are = subst (λ (g : Graph). AreInstances g.nodes c.args.«package» starts) c.self.view_is c.in_ok-instances.ensures in
    let reached = subst (λ es. IsReached Follow.Owned es starts gone) (ap (λ (g : Graph). g.edges) c.self.view_is) (subst (λ ss. IsReached Follow.Owned c.self.inside.edges ss c.in_ok-gone.gone) (c.in_ok-starts.ensures ∙ c.as_slice.ensures.value) c.in_ok-gone.ensures) in
    let taken = subst (λ h. TakesNodes c.args.self.now h gone) (sym c.self-2.view_is) c.remove_nodes.ensures in
    let left = held_left c.args.self.now (graph c.self-2.inside) c.args.«package» starts gone are reached taken c.requires in
    let same = got c.self-2.inside.places.items c.args.«package».place left.2.place c.index_mut.result.now left.2.there c.index_mut.ensures.value in
    subst (λ (x : Place). x.generation < 18446744073709551615) (sym same) (c.self-2.invariant.0.packages.low c.args.«package».place left.2.place left.2.there (subst IsSome (sym left.2.held) refl))

pub invariant_of-self : goal.invariant_of-self
invariant_of-self c =
    let starts = c.in_ok-instances.instances.items in
    let gone = c.in_ok-gone.gone in
    let are = subst (λ (g : Graph). AreInstances g.nodes c.args.«package» starts) c.self.view_is c.in_ok-instances.ensures in
    let reached = subst (λ es. IsReached Follow.Owned es starts gone) (ap (λ (g : Graph). g.edges) c.self.view_is) (subst (λ ss. IsReached Follow.Owned c.self.inside.edges ss c.in_ok-gone.gone) (c.in_ok-starts.ensures ∙ c.as_slice.ensures.value) c.in_ok-gone.ensures) in
    let taken = subst (λ h. TakesNodes c.args.self.now h gone) (sym c.self-2.view_is) c.remove_nodes.ensures in
    let left = held_left c.args.self.now (graph c.self-2.inside) c.args.«package» starts gone are reached taken c.requires in
    let same = got c.self-2.inside.places.items c.args.«package».place left.2.place c.index_mut.result.now left.2.there c.index_mut.ensures.value in
    let place = c.give_up.ensures ∙ ap left_place (ap (λ (x : Place). x.generation) same ∙ left.2.now) in (
      given_up_by c.args.self.now (graph c.self-2.inside) c.args.«package» starts gone are reached taken (slice_set c.self-2.inside.places.items c.args.«package».place c.give_up.new.place) left.0 left.1
          (ap (slice_set c.self-2.inside.places.items c.args.«package».place) place) c.self-2.invariant.0,
      c.self-2.invariant.1,
    )

pub returns-clause-grow : goal.returns-clause-grow
returns-clause-grow c =
    let starts = c.in_ok-instances.instances.items in
    let gone = c.in_ok-gone.gone in
    let are = subst (λ (g : Graph). AreInstances g.nodes c.args.«package» starts) c.self.view_is c.in_ok-instances.ensures in
    let reached = subst (λ es. IsReached Follow.Owned es starts gone) (ap (λ (g : Graph). g.edges) c.self.view_is) (subst (λ ss. IsReached Follow.Owned c.self.inside.edges ss c.in_ok-gone.gone) (c.in_ok-starts.ensures ∙ c.as_slice.ensures.value) c.in_ok-gone.ensures) in
    let taken = subst (λ h. TakesNodes c.args.self.now h gone) (sym c.self-2.view_is) c.remove_nodes.ensures in
    let left = held_left c.args.self.now (graph c.self-2.inside) c.args.«package» starts gone are reached taken c.requires in
    let same = got c.self-2.inside.places.items c.args.«package».place left.2.place c.index_mut.result.now left.2.there c.index_mut.ensures.value in
    let place = ap (λ (x : Place). x.generation) (c.give_up.ensures ∙ ap left_place (ap (λ (x : Place). x.generation) same)) in
    subst (λ ps. PlacesGrow ps (slice_set c.self-2.inside.places.items c.args.«package».place c.give_up.new.place)) (same_places_left c.args.self.now (graph c.self-2.inside) c.args.«package» starts gone are reached taken)
    (grow_set c.self-2.inside.places.items c.args.«package».place left.2.place c.give_up.new.place left.2.there (omega (arith, place)))

pub returns-clause-stale : goal.returns-clause-stale
returns-clause-stale c =
    let starts = c.in_ok-instances.instances.items in
    let gone = c.in_ok-gone.gone in
    let are = subst (λ (g : Graph). AreInstances g.nodes c.args.«package» starts) c.self.view_is c.in_ok-instances.ensures in
    let reached = subst (λ es. IsReached Follow.Owned es starts gone) (ap (λ (g : Graph). g.edges) c.self.view_is) (subst (λ ss. IsReached Follow.Owned c.self.inside.edges ss c.in_ok-gone.gone) (c.in_ok-starts.ensures ∙ c.as_slice.ensures.value) c.in_ok-gone.ensures) in
    let taken = subst (λ h. TakesNodes c.args.self.now h gone) (sym c.self-2.view_is) c.remove_nodes.ensures in
    let left = held_left c.args.self.now (graph c.self-2.inside) c.args.«package» starts gone are reached taken c.requires in
    let same = got c.self-2.inside.places.items c.args.«package».place left.2.place c.index_mut.result.now left.2.there c.index_mut.ensures.value in
    let place = c.give_up.ensures ∙ ap left_place (ap (λ (x : Place). x.generation) same ∙ left.2.now) in
    stale_step (graph c.self-2.inside) c.args.«package» (slice_set c.self-2.inside.places.items c.args.«package».place c.give_up.new.place) left.2.place left.2.there (ap (slice_set c.self-2.inside.places.items c.args.«package».place) place)

pub returns-clause-unregistered : goal.returns-clause-unregistered
returns-clause-unregistered c =
    let starts = c.in_ok-instances.instances.items in
    let gone = c.in_ok-gone.gone in
    let are = subst (λ (g : Graph). AreInstances g.nodes c.args.«package» starts) c.self.view_is c.in_ok-instances.ensures in
    let reached = subst (λ es. IsReached Follow.Owned es starts gone) (ap (λ (g : Graph). g.edges) c.self.view_is) (subst (λ ss. IsReached Follow.Owned c.self.inside.edges ss c.in_ok-gone.gone) (c.in_ok-starts.ensures ∙ c.as_slice.ensures.value) c.in_ok-gone.ensures) in
    let taken = subst (λ h. TakesNodes c.args.self.now h gone) (sym c.self-2.view_is) c.remove_nodes.ensures in
    let left = held_left c.args.self.now (graph c.self-2.inside) c.args.«package» starts gone are reached taken c.requires in
    let same = got c.self-2.inside.places.items c.args.«package».place left.2.place c.index_mut.result.now left.2.there c.index_mut.ensures.value in
    let place = c.give_up.ensures ∙ ap left_place (ap (λ (x : Place). x.generation) same ∙ left.2.now) in
    unregister_step c.args.self.now (graph c.self-2.inside) c.args.«package» starts gone are reached taken (slice_set c.self-2.inside.places.items c.args.«package».place c.give_up.new.place) (ap (slice_set c.self-2.inside.places.items c.args.«package».place) place)
