use Rattle.std.proofs.Common.{ℕ, ◌<◌, refl, sym, ap, subst, ◌∙◌, arith}
use Rattle.std.proofs.lemmas.Result.{IfOk-weaker}
use Rattle.wac_types_base.specs.declared.item.ItemKind.{ItemKind}
use Rattle.wac_types_base.specs.declared.item.ValueType.{ValueType}
use Rattle.wac_types_base.specs.Collection.{size_of, slots_of, StandsIf}
use Rattle.wac_types_base.proofs.Slots.{stands_own, stands_borrow}
use Rattle.wac_types_base.proofs.Walking.{some_place}
use Rattle.wac_types_fit.specs.Checking.{value_tree, place_trees}
use Rattle.wac_types_fit.proofs.Unfolded.{same_tree, end_no_alias, end_smaller, primitive_tree, own_tree, borrow_tree}
use Rattle.wac_types_fit.proofs.ValueTrees.{place_size, place_inside, defined_holds}
use Rattle.wac_graph_scopes.specs.Prints.{joined, tree_print, place_print, places_print}
use Rattle.wac_graph_scopes.proofs.ValueLaws.{trees_all}
use Rattle.wac_types_parts.proofs.Lists.{take_zero}
use Rattle.wac_graph_scopes.proofs.PrintLaws.{printed_next, defined_printed, err_gives}
use Rattle.wac_graph_scopes.proofs.prints.Prints.+prints.Goals as goal

-- ---- of

pub of-resource_print-requires : goal.of-resource_print-requires
of-resource_print-requires t c = stands_own c.args.types.now c.in-Own.id c.in-Own.ensures.stands

pub of-resource_print-requires-in-Borrow : goal.of-resource_print-requires-in-Borrow
of-resource_print-requires-in-Borrow t c = stands_borrow c.args.types.now c.in-Borrow.id c.in-Borrow.ensures.stands

pub of-of_defined-requires : goal.of-of_defined-requires
of-of_defined-requires t c =
    let types = c.args.types.now in
    let smaller = end_smaller types c.see_acyclic.ensures c.args.ty _ c.in-Defined.ensures.resolved c.requires in
    (omega (arith, smaller, c.decreases), (c.in-Defined.ensures.stands, end_no_alias types c.see_acyclic.ensures c.in-Defined.ensures.resolved))

pub of-returns-in-Primitive : goal.of-returns-in-Primitive
of-returns-in-Primitive t c a =
    let types = c.args.types.now in
    let p = c.in-Primitive.p in
    let same = same_tree types c.see_acyclic.ensures (ItemKind.Value (ValueType.Primitive p)) (ItemKind.Value c.args.ty) c.in-Primitive.ensures.stands c.requires c.in-Primitive.ensures.tree in
    (a, c.primitive_print.ensures ∙ sym (ap tree_print (sym same ∙ primitive_tree types c.see_acyclic.ensures p)))

pub of-returns-in-Own : goal.of-returns-in-Own
of-returns-in-Own t c a =
    let types = c.args.types.now in
    let id = c.in-Own.id in
    let same = same_tree types c.see_acyclic.ensures (ItemKind.Value (ValueType.Own id)) (ItemKind.Value c.args.ty) c.in-Own.ensures.stands c.requires c.in-Own.ensures.tree in
    (a, c.joined.ensures ∙ ap (joined 13) c.resource_print.ensures ∙ sym (ap tree_print (sym same ∙ own_tree types c.see_acyclic.ensures id c.in-Own.ensures.stands)))

pub of-returns-in-Borrow : goal.of-returns-in-Borrow
of-returns-in-Borrow t c a =
    let types = c.args.types.now in
    let id = c.in-Borrow.id in
    let same = same_tree types c.see_acyclic.ensures (ItemKind.Value (ValueType.Borrow id)) (ItemKind.Value c.args.ty) c.in-Borrow.ensures.stands c.requires c.in-Borrow.ensures.tree in
    (a, c.joined-in-Borrow.ensures ∙ ap (joined 14) c.resource_print-in-Borrow.ensures ∙ sym (ap tree_print (sym same ∙ borrow_tree types c.see_acyclic.ensures id c.in-Borrow.ensures.stands)))

pub of-returns-in-Defined : goal.of-returns-in-Defined
of-returns-in-Defined t c a =
    let types = c.args.types.now in
    let id = c.in-Defined.id in
    let same = same_tree types c.see_acyclic.ensures (ItemKind.Value (ValueType.Defined id)) (ItemKind.Value c.args.ty) c.in-Defined.ensures.stands c.requires c.in-Defined.ensures.tree in
    let r = c.of_defined.ensures a in
    (r.0, IfOk-weaker c.of_defined.result _ _ (λ n e. e ∙ ap tree_print same) r.1)

-- ---- of a defined type

pub of_defined-of_new-requires : goal.of_defined-of_new-requires
of_defined-of_new-requires t c = (omega (arith, c.decreases), (c.requires.stands, c.requires.no_alias))

pub of_defined-returns-in-Some : goal.of_defined-returns-in-Some
of_defined-returns-in-Some t c a = (a, a.numbers c.args.id c.in-Some.print (sym c.in-Some.ensures) c.requires.stands)

pub of_defined-returns : goal.of_defined-returns
of_defined-returns t c a =
    let b = c.in_ok-print.ensures a in
    (c.keep.ensures c.args.types.now c.requires.stands b.1 b.0, b.1)

pub of_defined-returns-in_err-print : goal.of_defined-returns-in_err-print
of_defined-returns-in_err-print t c a = ((c.of_new.ensures a).0, err_gives c.from_residual.result _ c.from_residual.ensures.0)

pub of_defined-returns-in_err-keep : goal.of_defined-returns-in_err-keep
of_defined-returns-in_err-keep t c a =
    let b = c.in_ok-print.ensures a in
    (c.keep.ensures c.args.types.now c.requires.stands b.1 b.0, err_gives c.from_residual-in_err-keep.result _ c.from_residual-in_err-keep.ensures.0)

pub of_new-of_places-requires : goal.of_new-of_places-requires
of_new-of_places-requires t c =
    (omega (arith, c.decreases), (c.requires.stands, defined_holds c.args.types.now (ValueType.Defined c.args.id) c.args.id c.defined_type.result.now refl c.defined_type.ensures.entry c.defined_type.ensures.own))

pub of_new-returns : goal.of_new-returns
of_new-returns t c a =
    let types = c.args.types.now in
    let b = c.of_places.ensures a in
    let same = defined_printed types c.see_acyclic.ensures c.args.id c.defined_type.result.now c.label_print-label.result c.requires.no_alias c.defined_type.ensures.entry c.defined_type.ensures.own c.label_print-label.ensures in
    (b.0, IfOk-weaker c.of_places.result _ _ (λ n e. e ∙ same) b.1)

-- ---- of places

pub of_places-of_place-requires : goal.of_places-of_place-requires
of_places-of_place-requires t c =
    let types = c.args.types.now in
    let s = subst (λ v. StandsIf types v × (place_size types v < size_of types c.args.kind)) (sym c.value_of.ensures)
    (place_inside types c.see_acyclic.ensures c.args.kind c.requires.stands c.requires.values c.loop-place.at c.in-Some.place (sym c.in-Some.ensures.place)) in
    (omega (arith, s.1, c.decreases), s.0)

pub of_places-loop-place-init : goal.of_places-loop-place-init
of_places-loop-place-init t c a = (a, sym (ap (places_print c.args.before) (take_zero (place_trees c.args.types.now c.args.kind))))

pub of_places-loop-place-smaller : goal.of_places-loop-place-smaller
of_places-loop-place-smaller t c =
    let lt = some_place (slots_of c.args.types.now c.args.kind) c.loop-place.at c.in-Some.place (sym c.in-Some.ensures.place) in
    omega (arith, lt)

pub of_places-loop-place-preserved : goal.of_places-loop-place-preserved
of_places-loop-place-preserved t c a =
    let types = c.args.types.now in
    let before = c.loop-place.invariant a in
    let now = c.in_ok-print.ensures before.0 in
    (now.0, printed_next types c.args.kind c.loop-place.at c.in-Some.place c.value_of.result c.args.before c.loop-place.print c.in_ok-print.print c.requires.values c.value_of.ensures (sym c.in-Some.ensures.place) before.1 now.1)

pub of_places-returns : goal.of_places-returns
of_places-returns t c a =
    let types = c.args.types.now in
    let before = c.loop-place.invariant a in
    (before.0, before.1 ∙ ap (places_print c.args.before) (trees_all types c.args.kind c.loop-place.at (sym c.place.ensures.place ∙ c.in_default.is)))

pub of_places-returns-in_err-print : goal.of_places-returns-in_err-print
of_places-returns-in_err-print t c a =
    let before = c.loop-place.invariant a in
    ((c.of_place.ensures before.0).0, err_gives c.from_residual.result _ c.from_residual.ensures.0)

-- ---- of one place

pub of_place-of-requires : goal.of_place-of-requires
of_place-of-requires t c =
    let s = ap (place_size c.args.types.now) c.in-Some.is in
    (omega (arith, s, c.decreases), subst (λ v. StandsIf c.args.types.now v) c.in-Some.is c.requires)

pub of_place-returns-in-None : goal.of_place-returns-in-None
of_place-returns-in-None t c a = (a, c.joined.ensures ∙ ap (λ v. place_print c.args.before (value_tree c.args.types.now v)) (sym c.in-None.is))

pub of_place-returns-in_ok-print-in-Some : goal.of_place-returns-in_ok-print-in-Some
of_place-returns-in_ok-print-in-Some t c a =
    let types = c.args.types.now in
    let before = c.args.before in
    let r = c.in_ok-print-in-Some.ensures a in
    let row = c.joined-in-Some-2.ensures ∙ ap (λ (n : ℕ). joined n c.in_ok-print-in-Some.print) c.joined-in-Some.ensures ∙ ap (joined (joined before 2)) r.1 in
    (r.0, row ∙ ap (λ v. place_print before (value_tree types v)) (sym c.in-Some.is))

pub of_place-returns-in_err-print-in-Some : goal.of_place-returns-in_err-print-in-Some
of_place-returns-in_err-print-in-Some t c a = ((c.of.ensures a).0, err_gives c.from_residual.result _ c.from_residual.ensures.0)
