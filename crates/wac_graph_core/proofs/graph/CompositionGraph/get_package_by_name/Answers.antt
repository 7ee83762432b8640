use Rattle.std.proofs.Common.{◌≡◌, ℕ, Some, ap, sym, ◌∙◌, subst, slice_get}
use Rattle.std.specs.Option.{IfSome}
use Rattle.wac_types_names.specs.Keys.{borrowed_key, package_key}
use Rattle.wac_graph_core.specs.declared.package.Place.{Place}
use Rattle.wac_graph_core.specs.Graph.{Graph, package_of}
use Rattle.wac_graph_core.specs.Packages.{HoldsKey}
use Rattle.wac_graph_core.proofs.Registering.{no_key, shown_if, shown_if_none}
use Rattle.wac_graph_core.proofs.graph.CompositionGraph.get_package_by_name.Goals as goal

pub returns-in-None-clause-none : goal.returns-in-None-clause-none
returns-in-None-clause-none c = λ id p at keyed.
    no_key c.args.self.now (borrowed_key c.from_name_and_version-key.result)
    (subst (λ ps. (i : ℕ) (q : Place) → slice_get ps i ≡ Some q → HoldsKey q (borrowed_key c.from_name_and_version-key.result) → ⊥) (c.as_slice.ensures.value ∙ ap (λ (g : Graph). g.places) c.self.view_is) c.in-None.ensures.none)
    id p at (keyed ∙ sym c.from_name_and_version-key.ensures)

pub returns-in-Some-clause-found : goal.returns-in-Some-clause-found
returns-in-Some-clause-found c =
    let f = c.in-Some.ensures.found in
    let there = subst (λ ps. slice_get ps c.in-Some.at ≡ Some f.0) (c.as_slice.ensures.value ∙ ap (λ (g : Graph). g.places) c.self.view_is) f.1 in
    subst (λ k. IfSome c.package_at.result (λ x. (package_of c.args.self.now x.0 ≡ Some x.1.now) × (package_key x.1.now ≡ k))) c.from_name_and_version-key.ensures
    (shown_if c.args.self.now c.in-Some.at f.0 (borrowed_key c.from_name_and_version-key.result) c.package_at.result there f.2 c.package_at.ensures)

pub returns-in-Some-clause-none : goal.returns-in-Some-clause-none
returns-in-Some-clause-none c =
    let f = c.in-Some.ensures.found in
    let there = subst (λ ps. slice_get ps c.in-Some.at ≡ Some f.0) (c.as_slice.ensures.value ∙ ap (λ (g : Graph). g.places) c.self.view_is) f.1 in
    shown_if_none c.args.self.now c.in-Some.at f.0 (borrowed_key c.from_name_and_version-key.result) c.package_at.result _ there f.2 c.package_at.ensures
