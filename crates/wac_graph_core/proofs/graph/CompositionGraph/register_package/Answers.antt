use Rattle.std.proofs.Common.{◌≡◌, ◌<◌, ℕ, Some, length, ap, sym, ◌∙◌, refl, subst, slice_get, slice_set, arith}
use Rattle.wac_types_names.specs.Keys.{borrowed_key, package_key}
use Rattle.wac_graph_core.specs.declared.ids.PackageId.{PackageId}
use Rattle.wac_graph_core.specs.declared.package.Place.{Place}
use Rattle.wac_graph_core.specs.Graph.{Graph, PackageStands}
use Rattle.wac_graph_core.specs.Packages.{HoldsKey, IsFreePlace, NoKey, Registers, PlacesGrow, held_place}
use Rattle.wac_graph_core.specs.View.{graph}
use Rattle.wac_graph_core.proofs.ExportSteps.{got}
use Rattle.wac_graph_core.proofs.Registering.{no_key, key_held, free_by, free_step, last_by, last_step, grow_set, grow_last}
use Rattle.wac_graph_core.proofs.PlaceSteps.{grow_same}
use Rattle.wac_graph_core.proofs.graph.CompositionGraph.register_package.Goals as goal
use Rattle.wac_types_base.proofs.Walking.{some_place}

pub returns-in-Some-clause-refused : goal.returns-in-Some-clause-refused
returns-in-Some-clause-refused c =
    let f = c.in-Some.ensures.found in
    let r = key_held c.args.self.now c.in-Some.field-0 f.0 (borrowed_key c.key.result) (subst (λ ps. slice_get ps c.in-Some.field-0 ≡ Some f.0) (c.as_slice.ensures.value ∙ ap (λ (g : Graph). g.places) c.self.view_is) f.1) f.2 in
    (c.in_ok-new.ensures, r.0, r.1, r.2, r.3 ∙ c.key.ensures)

pub index_mut-requires : goal.index_mut-requires
index_mut-requires c =
    let f = c.in-Some-free_place.ensures in
    let there = subst (λ xs. slice_get xs c.in-Some-free_place.place ≡ Some f.0) c.as_slice-2.ensures.value f.1 in
    let h : c.in-Some-free_place.place < length c.self.inside.places.items = some_place c.self.inside.places.items c.in-Some-free_place.place f.0 there in
    omega (arith, h, c.self.inside.places.ok)

pub invariant_of-self : goal.invariant_of-self
invariant_of-self c =
    let f = c.in-Some-free_place.ensures in
    let there = subst (λ xs. slice_get xs c.in-Some-free_place.place ≡ Some f.0) c.as_slice-2.ensures.value f.1 in
    let same = got c.self.inside.places.items c.in-Some-free_place.place f.0 c.index_mut.result.now there c.index_mut.ensures.value in
    let none : NoKey (graph c.self.inside) (package_key c.args.«package») =
    no_key (graph c.self.inside) (package_key c.args.«package»)
    (subst (λ k. (i : ℕ) (q : Place) → slice_get c.self.inside.places.items i ≡ Some q → HoldsKey q k → ⊥) c.key.ensures
    (subst (λ ps. (i : ℕ) (q : Place) → slice_get ps i ≡ Some q → HoldsKey q (borrowed_key c.key.result) → ⊥) c.as_slice.ensures.value c.in_default.ensures.none)) in
    let id : PackageId = record { place = c.in-Some-free_place.place; generation = c.fill-generation.result } in
    let free : IsFreePlace c.self.inside.places.items id = record { place = f.0; there = there; free = f.2; now = c.fill-generation.ensures.now ∙ ap (λ (x : Place). x.generation) same } in (
      free_by (graph c.self.inside) c.args.«package» (slice_set c.self.inside.places.items c.in-Some-free_place.place c.fill-generation.new.place) id
          (ap (slice_set c.self.inside.places.items c.in-Some-free_place.place) (c.fill-generation.ensures.filled ∙ ap (λ n. held_place n c.args.«package») (sym c.fill-generation.ensures.now)))
          free none (subst (λ (g : Graph). PackageStands g.types c.args.«package») (sym c.self.view_is) c.requires) c.self.invariant.0,
      c.self.invariant.1,
    )

pub returns-in-Some-free_place-clause-registered : goal.returns-in-Some-free_place-clause-registered
returns-in-Some-free_place-clause-registered c =
    let f = c.in-Some-free_place.ensures in
    let there = subst (λ xs. slice_get xs c.in-Some-free_place.place ≡ Some f.0) c.as_slice-2.ensures.value f.1 in
    let same = got c.self.inside.places.items c.in-Some-free_place.place f.0 c.index_mut.result.now there c.index_mut.ensures.value in
    let none : NoKey (graph c.self.inside) (package_key c.args.«package») =
    no_key (graph c.self.inside) (package_key c.args.«package»)
    (subst (λ k. (i : ℕ) (q : Place) → slice_get c.self.inside.places.items i ≡ Some q → HoldsKey q k → ⊥) c.key.ensures
    (subst (λ ps. (i : ℕ) (q : Place) → slice_get ps i ≡ Some q → HoldsKey q (borrowed_key c.key.result) → ⊥) c.as_slice.ensures.value c.in_default.ensures.none)) in
    let id : PackageId = record { place = c.in-Some-free_place.place; generation = c.fill-generation.result } in
    let free : IsFreePlace c.self.inside.places.items id = record { place = f.0; there = there; free = f.2; now = c.fill-generation.ensures.now ∙ ap (λ (x : Place). x.generation) same } in
    subst (λ g. Registers g (record (graph c.self.inside) { places = slice_set c.self.inside.places.items c.in-Some-free_place.place c.fill-generation.new.place }) c.args.«package» id) c.self.view_is
    (free_step (graph c.self.inside) c.args.«package» (slice_set c.self.inside.places.items c.in-Some-free_place.place c.fill-generation.new.place) id
    (ap (slice_set c.self.inside.places.items c.in-Some-free_place.place) (c.fill-generation.ensures.filled ∙ ap (λ n. held_place n c.args.«package») (sym c.fill-generation.ensures.now)))
    free none)

pub returns-in-Some-free_place-clause-grow : goal.returns-in-Some-free_place-clause-grow
returns-in-Some-free_place-clause-grow c =
    let f = c.in-Some-free_place.ensures in
    let there = subst (λ xs. slice_get xs c.in-Some-free_place.place ≡ Some f.0) c.as_slice-2.ensures.value f.1 in
    let same = got c.self.inside.places.items c.in-Some-free_place.place f.0 c.index_mut.result.now there c.index_mut.ensures.value in
    let place = ap (λ (x : Place). x.generation) (c.fill-generation.ensures.filled ∙ ap (λ (x : Place). held_place x.generation c.args.«package») same) in
    subst (λ (g : Graph). PlacesGrow g.places (slice_set c.self.inside.places.items c.in-Some-free_place.place c.fill-generation.new.place)) c.self.view_is
    (grow_set c.self.inside.places.items c.in-Some-free_place.place f.0 c.fill-generation.new.place there (omega (arith, place)))

pub invariant_of-self-in-None : goal.invariant_of-self-in-None
invariant_of-self-in-None c =
    let none : NoKey (graph c.self.inside) (package_key c.args.«package») =
    no_key (graph c.self.inside) (package_key c.args.«package»)
    (subst (λ k. (i : ℕ) (q : Place) → slice_get c.self.inside.places.items i ≡ Some q → HoldsKey q k → ⊥) c.key.ensures
    (subst (λ ps. (i : ℕ) (q : Place) → slice_get ps i ≡ Some q → HoldsKey q (borrowed_key c.key.result) → ⊥) c.as_slice.ensures.value c.in_default.ensures.none)) in
    let count : c.len-place.result ≡ length c.self.inside.places.items = omega (arith, c.len-place.ensures, c.self.inside.places.ok) in (
      last_by (graph c.self.inside) c.args.«package» c.push.new.self.items (record { place = c.len-place.result; generation = 0 }) c.in_ok-push-in-None.ensures.items (record { place = count; first = refl }) none
          (subst (λ (g : Graph). PackageStands g.types c.args.«package») (sym c.self.view_is) c.requires) c.self.invariant.0,
      c.self.invariant.1,
    )

pub returns-in_ok-push-in-None-clause-registered : goal.returns-in_ok-push-in-None-clause-registered
returns-in_ok-push-in-None-clause-registered c =
    let none : NoKey (graph c.self.inside) (package_key c.args.«package») =
    no_key (graph c.self.inside) (package_key c.args.«package»)
    (subst (λ k. (i : ℕ) (q : Place) → slice_get c.self.inside.places.items i ≡ Some q → HoldsKey q k → ⊥) c.key.ensures
    (subst (λ ps. (i : ℕ) (q : Place) → slice_get ps i ≡ Some q → HoldsKey q (borrowed_key c.key.result) → ⊥) c.as_slice.ensures.value c.in_default.ensures.none)) in
    let count : c.len-place.result ≡ length c.self.inside.places.items = omega (arith, c.len-place.ensures, c.self.inside.places.ok) in
    subst (λ g. Registers g (record (graph c.self.inside) { places = c.push.new.self.items }) c.args.«package» (record { place = c.len-place.result; generation = 0 })) c.self.view_is
    (last_step (graph c.self.inside) c.args.«package» c.push.new.self.items (record { place = c.len-place.result; generation = 0 }) c.in_ok-push-in-None.ensures.items (record { place = count; first = refl }) none)

pub returns-in_ok-push-in-None-clause-grow : goal.returns-in_ok-push-in-None-clause-grow
returns-in_ok-push-in-None-clause-grow c =
    subst (λ (g : Graph). PlacesGrow g.places c.push.new.self.items) c.self.view_is
    (subst (PlacesGrow c.self.inside.places.items) (sym c.in_ok-push-in-None.ensures.items) (grow_last c.self.inside.places.items (held_place 0 c.args.«package»)))

pub returns-in_err-push-in-None-clause-grow : goal.returns-in_err-push-in-None-clause-grow
returns-in_err-push-in-None-clause-grow c =
    subst (λ (g : Graph). PlacesGrow g.places c.push.new.self.items) c.self.view_is
    (subst (PlacesGrow c.self.inside.places.items) (sym c.in_err-push-in-None.ensures.items) (grow_same c.self.inside.places.items))
