use Rattle.std.specs.Prelude.{IfSome}
use Rattle.std.proofs.Common.{◌≡◌, ◌∷◌, ◌+◌, ◌<◌, Some, take, refl, sym, ap, subst, ◌∙◌, arith}
use Rattle.std.proofs.lemmas.Result.{err_from_is_err_and, IfOk-weaker}
use Rattle.wac_types_base.specs.declared.item.ItemKind.{ItemKind}
use Rattle.wac_types_base.specs.declared.item.ValueType.{ValueType}
use Rattle.wac_types_base.specs.Collection.{Stands, size_of, slots_of, StandsIf}
use Rattle.wac_types_base.specs.Resolving.{IsNoAlias}
use Rattle.wac_types_base.proofs.Walking.{some_place}
use Rattle.wac_types_fit.specs.Trees.{tree_in}
use Rattle.wac_types_fit.specs.Checking.{value_tree, place_trees}
use Rattle.wac_types_fit.proofs.Unfolded.{same_tree, end_no_alias, end_smaller, primitive_tree}
use Rattle.wac_types_fit.proofs.ValueTrees.{place_size, place_inside, defined_holds}
use Rattle.wac_graph_bytes.specs.declared.value.ValueType.TheVariants.{Primitive, Index}
use Rattle.wac_graph_bytes.specs.Typing.{value_of}
use Rattle.wac_graph_scopes.specs.Forms.{entry_of}
use Rattle.wac_graph_scopes.specs.Scopes.{AnswersPlaces}
use Rattle.wac_graph_scopes.proofs.ValueLaws.{value_of_tree, value_there, value_written, value_remembered, places_none, places_next, trees_next, trees_all}
use Rattle.wac_types_parts.proofs.Lists.{take_zero}
use Rattle.wac_graph_scopes.proofs.HandleLaws.{place_none, place_some}
use Rattle.wac_graph_scopes.proofs.PlaceLaws.{known_same_list, known_pushed}
use Rattle.wac_graph_scopes.proofs.RefusedLaws.{if_err_map, alias_refused, place_refused, whole_refused, later_same_list}
use Rattle.wac_graph_scopes.proofs.value.+values.Goals as goal

pub push_value-push_resolved-requires : goal.push_value-push_resolved-requires
push_value-push_resolved-requires t c =
    let smaller = end_smaller c.args.types.now c.see_acyclic.ensures c.args.ty c.resolve_value_type-end.result c.resolve_value_type-end.ensures.resolved c.requires in
    (omega (arith, smaller, c.decreases), (c.resolve_value_type-end.ensures.stands, end_no_alias c.args.types.now c.see_acyclic.ensures c.resolve_value_type-end.ensures.resolved))

pub push_value-returns-in-Some-clause-writes : goal.push_value-returns-in-Some-clause-writes
push_value-returns-in-Some-clause-writes t c w outer i h =
    let types = c.args.types.now in
    value_there w types outer i (tree_in types (ItemKind.Value c.args.ty)) c.args.scope.now (Index c.in-Some.index) h (c.in-Some.ensures.reads w outer i h)

pub push_value-returns-in-Some-clause-own : goal.push_value-returns-in-Some-clause-own
push_value-returns-in-Some-clause-own t c d k e is =
    let same : c.in-Some.index ≡ k = cc (c.in-Some.ensures.own d k e is) in
    ap Index same

pub push_value-returns-clause-own : goal.push_value-returns-clause-own
push_value-returns-clause-own t c d k e is = absurd (cc (c.in_default.ensures.own d k e is))

pub push_value-returns-clause-writes : goal.push_value-returns-clause-writes
push_value-returns-clause-writes t c w outer i h =
    let types = c.args.types.now in
    let v = c.resolve_value_type-end.result in
    let same = same_tree types c.see_acyclic.ensures (ItemKind.Value v) (ItemKind.Value c.args.ty) c.resolve_value_type-end.ensures.stands c.requires c.resolve_value_type-end.ensures.tree in
    IfOk-weaker c.push_resolved.result _ _ (λ b a. value_of_tree w types outer i (tree_in types (ItemKind.Value v)) (tree_in types (ItemKind.Value c.args.ty)) c.push_resolved.new.scope b same a) (c.push_resolved.ensures.writes w outer i h)

pub push_resolved-push_own-requires : goal.push_resolved-push_own-requires
push_resolved-push_own-requires t c = subst (λ v. Stands c.args.types.now (ItemKind.Value v)) c.in-Own.is c.requires.stands

pub push_resolved-push_borrow-requires : goal.push_resolved-push_borrow-requires
push_resolved-push_borrow-requires t c = subst (λ v. Stands c.args.types.now (ItemKind.Value v)) c.in-Borrow.is c.requires.stands

pub push_resolved-push_defined-requires : goal.push_resolved-push_defined-requires
push_resolved-push_defined-requires t c =
    let types = c.args.types.now in
    let s = ap (λ v. size_of types (ItemKind.Value v)) c.in-Defined.is in
    (omega (arith, s, c.decreases), (subst (λ v. Stands types (ItemKind.Value v)) c.in-Defined.is c.requires.stands, subst (λ v. IsNoAlias types v) c.in-Defined.is c.requires.no_alias))

pub push_resolved-returns-in-Primitive-clause-writes : goal.push_resolved-returns-in-Primitive-clause-writes
push_resolved-returns-in-Primitive-clause-writes t c w outer i h =
    let types = c.args.types.now in
    let p = c.in-Primitive.p in
    value_there w types outer i (tree_in types (ItemKind.Value c.args.ty)) c.args.scope.now (Primitive p) h
    (ap Some (sym (ap (λ v. tree_in types (ItemKind.Value v)) c.in-Primitive.is ∙ primitive_tree types c.see_acyclic.ensures p)))

pub push_resolved-returns-in-Own-clause-writes : goal.push_resolved-returns-in-Own-clause-writes
push_resolved-returns-in-Own-clause-writes t c w outer i h =
    let types = c.args.types.now in
    IfOk-weaker c.push_own.result _ _ (λ b a. value_of_tree w types outer i (tree_in types (ItemKind.Value (ValueType.Own c.in-Own.id))) (tree_in types (ItemKind.Value c.args.ty)) c.push_own.new.scope b (ap (λ v. tree_in types (ItemKind.Value v)) (sym c.in-Own.is)) a) (c.push_own.ensures.writes w outer i h)

pub push_resolved-returns-in-Borrow-clause-writes : goal.push_resolved-returns-in-Borrow-clause-writes
push_resolved-returns-in-Borrow-clause-writes t c w outer i h =
    let types = c.args.types.now in
    IfOk-weaker c.push_borrow.result _ _ (λ b a. value_of_tree w types outer i (tree_in types (ItemKind.Value (ValueType.Borrow c.in-Borrow.id))) (tree_in types (ItemKind.Value c.args.ty)) c.push_borrow.new.scope b (ap (λ v. tree_in types (ItemKind.Value v)) (sym c.in-Borrow.is)) a) (c.push_borrow.ensures.writes w outer i h)

pub push_resolved-returns-in-Defined-clause-writes : goal.push_resolved-returns-in-Defined-clause-writes
push_resolved-returns-in-Defined-clause-writes t c w outer i h =
    let types = c.args.types.now in
    IfOk-weaker c.push_defined.result _ _ (λ b a. value_of_tree w types outer i (tree_in types (ItemKind.Value (ValueType.Defined c.in-Defined.id))) (tree_in types (ItemKind.Value c.args.ty)) c.push_defined.new.scope b (ap (λ v. tree_in types (ItemKind.Value v)) (sym c.in-Defined.is)) a) (c.push_defined.ensures.writes w outer i h)

pub push_defined-define_entry-requires : goal.push_defined-define_entry-requires
push_defined-define_entry-requires t c = (omega (arith, c.decreases), c.requires.stands)

pub push_defined-returns-in-Some-clause-writes : goal.push_defined-returns-in-Some-clause-writes
push_defined-returns-in-Some-clause-writes t c w outer i h =
    let types = c.args.types.now in
    value_there w types outer i (tree_in types (ItemKind.Value (ValueType.Defined c.args.id))) c.known_index.new.scope (Index c.in-Some.index) (c.known_index.ensures.keeps w outer i h)
    (subst (λ o. IfSome o (λ k. value_of w (i.here ∷ outer) (Index k) ≡ Some (tree_in types (ItemKind.Value (ValueType.Defined c.args.id))))) c.in-Some.is (c.in_ok-known.ensures.reads w outer i h))

pub push_defined-returns-clause-writes : goal.push_defined-returns-clause-writes
push_defined-returns-clause-writes t c w outer i h =
    let types = c.args.types.now in
    value_remembered w types outer i (tree_in types (ItemKind.Value (ValueType.Defined c.args.id))) c.define_entry.new.scope c.remember.new.self c.in_ok-index.index
    (c.in_ok-index.ensures.writes w outer i c.requires.no_alias (c.known_index.ensures.keeps w outer i h)) (λ j hs e. c.in_ok-remember.ensures.known w types outer j hs (record { reads = e }) (λ is. absurd (cc is)))

pub define_entry-push_places-requires : goal.define_entry-push_places-requires
define_entry-push_places-requires t c =
    (omega (arith, c.decreases), (c.requires, defined_holds c.args.types.now (ValueType.Defined c.args.id) c.args.id c.defined_type-ty.result.now refl c.defined_type-ty.ensures.entry c.defined_type-ty.ensures.own))

pub define_entry-returns-clause-writes : goal.define_entry-returns-clause-writes
define_entry-returns-clause-writes t c w outer i no_alias h =
    let types = c.args.types.now in
    value_written w types outer i c.see_acyclic.ensures c.args.id c.defined_type-ty.result.now c.push_places.new.scope c.define.new.self c.in_ok-places.places.items c.in_ok-entry.entry c.in_ok-define.field-0
    no_alias c.defined_type-ty.ensures.entry c.defined_type-ty.ensures.own (c.in_ok-places.ensures.writes w outer i h)
    (c.in_ok-entry.ensures ∙ ap (entry_of c.defined_type-ty.result.now) c.as_slice.ensures.value)
    (λ j x hs e. c.in_ok-define.ensures.stands w types outer j x hs e)

pub push_places-push_place-requires : goal.push_places-push_place-requires
push_places-push_place-requires t c =
    let types = c.args.types.now in
    let s = subst (λ v. StandsIf types v × (place_size types v < size_of types c.args.kind)) (sym c.value_of.ensures)
    (place_inside types c.see_acyclic.ensures c.args.kind c.requires.stands c.requires.values c.loop-place.at c.in-Some.place (sym c.in-Some.ensures.place)) in
    (omega (arith, s.1, c.decreases), s.0)

pub push_places-loop-place-init : goal.push_places-loop-place-init
push_places-loop-place-init t c = record { resources = refl; known = λ k m. m; written = λ w outer i h. places_none w c.args.types.now outer i (take 0 (place_trees c.args.types.now c.args.kind)) c.args.scope.now _ h (take_zero (place_trees c.args.types.now c.args.kind)) c.new-written.ensures.items }

pub push_places-loop-place-smaller : goal.push_places-loop-place-smaller
push_places-loop-place-smaller t c =
    let lt = some_place (slots_of c.args.types.now c.args.kind) c.loop-place.at c.in-Some.place (sym c.in-Some.ensures.place) in
    omega (arith, lt)

pub push_places-loop-place-preserved : goal.push_places-loop-place-preserved
push_places-loop-place-preserved t c = record {
  resources = c.in_ok-value.ensures.resources ∙ c.loop-place.invariant.resources;
  known = λ k m. c.in_ok-value.ensures.known k (c.loop-place.invariant.known k m);
  written = λ w outer i h.
      let types = c.args.types.now in
      let trees = place_trees types c.args.kind in
      let a = c.loop-place.invariant.written w outer i h in
      places_next w types outer i (take c.loop-place.at trees) (take (c.loop-place.at + 1) trees) (value_tree types c.value_of.result) c.loop-place.scope c.push_place.new.scope c.loop-place.written.items c.push.new.self.items c.in_ok-value.value
      a (c.in_ok-value.ensures.writes w outer a.after a.goes.stands)
      (trees_next types c.args.kind c.loop-place.at c.in-Some.place c.value_of.result c.requires.values c.value_of.ensures (sym c.in-Some.ensures.place)) c.in_ok-push.ensures.items;
}

pub push_places-returns-clause-writes : goal.push_places-returns-clause-writes
push_places-returns-clause-writes t c w outer i h =
    let types = c.args.types.now in
    subst (λ l. AnswersPlaces w types outer i l c.loop-place.scope c.loop-place.written.items) (trees_all types c.args.kind c.loop-place.at (sym c.place.ensures.place ∙ c.in_default.is)) (c.loop-place.invariant.written w outer i h)

pub push_place-push_value-requires : goal.push_place-push_value-requires
push_place-push_value-requires t c =
    let s = ap (place_size c.args.types.now) c.in-Some.is in
    (omega (arith, s, c.decreases), subst (λ v. StandsIf c.args.types.now v) c.in-Some.is c.requires)

pub push_place-returns-in-None-clause-writes : goal.push_place-returns-in-None-clause-writes
push_place-returns-in-None-clause-writes t c w outer i h = place_none w c.args.types.now outer i c.args.scope.now c.args.place h c.in-None.is

pub push_place-returns-in_ok-value-in-Some-clause-writes : goal.push_place-returns-in_ok-value-in-Some-clause-writes
push_place-returns-in_ok-value-in-Some-clause-writes t c w outer i h = place_some w c.args.types.now outer i c.push_value.new.scope c.args.place c.in-Some.ty c.in_ok-value-in-Some.value c.in-Some.is (c.in_ok-value-in-Some.ensures.writes w outer i h)

pub push_value-returns-clause-refused : goal.push_value-returns-clause-refused
push_value-returns-clause-refused t c =
    if_err_map c.push_resolved.result (λ e h. alias_refused c.args.types.now c.see_acyclic.ensures c.args.ty c.resolve_value_type-end.result c.resolve_value_type-end.ensures.resolved c.requires c.args.scope.now c.push_resolved.new.scope e h) c.push_resolved.ensures.refused

pub push_places-returns-in_err-value-clause-refused : goal.push_places-returns-in_err-value-clause-refused
push_places-returns-in_err-value-clause-refused t c =
    let types = c.args.types.now in
    let p = err_from_is_err_and c.from_residual.result c.from_residual.ensures.1 in
    rw (p.1, p.2)
    (place_refused types c.args.kind c.loop-place.at c.in-Some.place c.value_of.result c.args.scope.now c.loop-place.scope c.push_place.new.scope c.in_err-value.field-0.0
    (record { scope = λ h. let a = c.loop-place.invariant.written h.0 h.1 h.2 h.3 in (h.0, h.1, a.after, a.goes.stands); known = c.loop-place.invariant.known }) c.requires.values (sym c.in-Some.ensures.place) c.value_of.ensures c.in_err-value.ensures.refused)

pub define_entry-returns-clause-entry : goal.define_entry-returns-clause-entry
define_entry-returns-clause-entry t c w outer i h = let a = c.in_ok-places.ensures.writes w outer i h in c.in_ok-define.ensures.entry c.args.types.now w outer a.after a.goes.stands

pub push_defined-returns-in_err-index-clause-refused : goal.push_defined-returns-in_err-index-clause-refused
push_defined-returns-in_err-index-clause-refused t c =
    let types = c.args.types.now in
    let p = err_from_is_err_and c.from_residual-in_err-index.result c.from_residual-in_err-index.ensures.1 in
    let s = c.args.scope.now in
    let mid = c.known_index.new.scope in
    let u = c.define_entry.new.scope in
    let later = later_same_list types s mid c.known_index.ensures.keeps c.known_index.ensures.known in
    let resources = c.in_err-index.ensures.resources ∙ c.known_index.ensures.resources in
    rw (p.1, p.2) (whole_refused types c.args.id s mid u c.in_err-index.field-0.0 c.in_ok-known.known later resources c.in_default.is c.in_ok-known.ensures.none c.in_err-index.ensures.refused)

pub push_defined-returns-clause-known : goal.push_defined-returns-clause-known
push_defined-returns-clause-known t c k m =
    known_pushed c.define_entry.new.scope.known.all.items c.remember.new.self.known.all.items _ c.in_ok-remember.ensures.all k (c.in_ok-index.ensures.known k (known_same_list c.args.scope.now.known.all.items c.known_index.new.scope.known.all.items (ap (λ v. v.items) c.known_index.ensures.known) k m))

pub push_defined-returns-in-Some-clause-known : goal.push_defined-returns-in-Some-clause-known
push_defined-returns-in-Some-clause-known t c = known_same_list c.args.scope.now.known.all.items c.known_index.new.scope.known.all.items (ap (λ v. v.items) c.known_index.ensures.known)

pub define_entry-returns-clause-known : goal.define_entry-returns-clause-known
define_entry-returns-clause-known t c k m =
    known_same_list c.push_places.new.scope.known.all.items c.define.new.self.known.all.items (ap (λ ks. ks.all.items) c.in_ok-define.ensures.known) k (c.in_ok-places.ensures.known k m)
