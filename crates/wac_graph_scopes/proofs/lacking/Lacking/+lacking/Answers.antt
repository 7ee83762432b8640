use Rattle.std.proofs.Common.{◌<◌, Some, refl, sym, ap, subst, ◌∙◌, arith}
use Rattle.wac_types_base.specs.declared.item.ItemKind.{ItemKind}
use Rattle.wac_types_base.specs.declared.item.ValueType.{ValueType}
use Rattle.wac_types_base.specs.Collection.{Stands, size_of, slots_of, StandsIf}
use Rattle.wac_types_base.proofs.Slots.{stands_own, stands_borrow}
use Rattle.wac_types_base.proofs.Walking.{some_place}
use Rattle.wac_types_fit.proofs.ValueTrees.{place_size, place_inside, defined_holds}
use Rattle.wac_graph_scopes.proofs.LackingLaws.{primitive_whole, own_whole, borrow_whole, whole_next, whole_all}
use Rattle.wac_graph_scopes.proofs.lacking.Lacking.+lacking.Goals as goal

-- ---- of a value type

pub of-is_unnamed-requires : goal.of-is_unnamed-requires
of-is_unnamed-requires t c = stands_own c.args.types.now c.in-Own.id (subst (λ v. Stands c.args.types.now (ItemKind.Value v)) c.in-Own.is c.requires)

pub of-is_unnamed-requires-in-Borrow : goal.of-is_unnamed-requires-in-Borrow
of-is_unnamed-requires-in-Borrow t c = stands_borrow c.args.types.now c.in-Borrow.id (subst (λ v. Stands c.args.types.now (ItemKind.Value v)) c.in-Borrow.is c.requires)

pub of-returns-in-Primitive : goal.of-returns-in-Primitive
of-returns-in-Primitive t c a = (a, λ no v e. primitive_whole c.args.types.now c.args.scope.now c.in-Primitive.field-0 v (ap Some (sym c.in-Primitive.is) ∙ e))

pub of-returns-in-Own : goal.of-returns-in-Own
of-returns-in-Own t c a =
    let types = c.args.types.now in
    let stands = stands_own types c.in-Own.id (subst (λ v. Stands types (ItemKind.Value v)) c.in-Own.is c.requires) in
    (a, λ no v e. own_whole types c.args.scope.now c.in-Own.id stands (c.is_unnamed.ensures no) v (ap Some (sym c.in-Own.is) ∙ e))

pub of-returns-in-Borrow : goal.of-returns-in-Borrow
of-returns-in-Borrow t c a =
    let types = c.args.types.now in
    let stands = stands_borrow types c.in-Borrow.id (subst (λ v. Stands types (ItemKind.Value v)) c.in-Borrow.is c.requires) in
    (a, λ no v e. borrow_whole types c.args.scope.now c.in-Borrow.id stands (c.is_unnamed-in-Borrow.ensures no) v (ap Some (sym c.in-Borrow.is) ∙ e))

-- ---- of a defined type

pub of_new-of_places-requires : goal.of_new-of_places-requires
of_new-of_places-requires t c =
    (omega (arith, c.decreases), (c.requires, defined_holds c.args.types.now (ValueType.Defined c.args.id) c.args.id c.defined_type.result.now refl c.defined_type.ensures.entry c.defined_type.ensures.own))

-- ---- of places

pub of_places-of_place-requires : goal.of_places-of_place-requires
of_places-of_place-requires t c =
    let types = c.args.types.now in
    let s = subst (λ v. StandsIf types v × (place_size types v < size_of types c.args.kind)) (sym c.value_of.ensures)
    (place_inside types c.see_acyclic.ensures c.args.kind c.requires.stands c.requires.values c.loop-place.at c.in-Some.place (sym c.in-Some.ensures.place)) in
    (omega (arith, s.1, c.decreases), s.0)

pub of_places-loop-place-init : goal.of_places-loop-place-init
of_places-loop-place-init t c a = (a, λ n s lt e. absurd (omega (arith, lt)))

pub of_places-loop-place-smaller : goal.of_places-loop-place-smaller
of_places-loop-place-smaller t c =
    let lt = some_place (slots_of c.args.types.now c.args.kind) c.loop-place.at c.in-Some.place (sym c.in-Some.ensures.place) in
    omega (arith, lt)

pub of_places-loop-place-preserved : goal.of_places-loop-place-preserved
of_places-loop-place-preserved t c a =
    let before = c.loop-place.invariant a in
    let now = c.in_ok-of_place.ensures before.0 in
    (now.0, whole_next c.args.types.now c.args.scope.now c.args.kind c.loop-place.at c.in-Some.place c.value_of.result (sym c.in-Some.ensures.place) c.value_of.ensures (now.1 c.if-branch.false) before.1)

pub of_places-returns : goal.of_places-returns
of_places-returns t c a =
    let before = c.loop-place.invariant a in
    (before.0, λ no. whole_all c.args.types.now c.args.scope.now c.args.kind c.loop-place.at (sym c.place.ensures.place ∙ c.in_default.is) before.1)
