use Rattle.std.proofs.Common.{◌≡◌, ◌<◌, slice_get, sym, ap, subst, refl, ◌∙◌, arith, below_more}
use Rattle.wac_types_base.specs.declared.item.ItemKind.{ItemKind}
use Rattle.wac_types_base.specs.declared.item.ValueType.{ValueType}
use Rattle.wac_types_base.specs.Collection.{Stands, size_of, slots_of, StandsIf}
use Rattle.wac_types_base.proofs.Walking.{some_place}
use Rattle.wac_types_base.proofs.Slots.{stands_borrow, stands_own}
use Rattle.wac_types_fit.specs.Trees.{SameTree}
use Rattle.wac_types_fit.specs.Checking.{place_trees}
use Rattle.wac_types_fit.proofs.Unfolded.{same_tree, end_no_alias, end_smaller}
use Rattle.wac_types_fit.proofs.ValueTrees.{place_size, place_inside, place_agrees, place_step, ends_decided, decided_no, decided_false, not_both, defined_holds, primitives_same, owns_same, borrows_same, defined_decided, labels_of, other_primitive, other_borrow, other_own, other_defined, same_through}
use Rattle.wac_types_fit.proofs.values.+values.Goals as goal

pub same_places-same_place-requires : goal.same_places-same_place-requires
same_places-same_place-requires t c =
    let at = c.args.at.now in
    let bt = c.args.bt.now in
    let s = subst (λ v. StandsIf at v × (place_size at v < size_of at c.args.a)) (sym c.value_of.ensures)
    (place_inside at c.see_acyclic.ensures c.args.a c.requires.given c.requires.given_values c.loop-given.index c.in-Some.given (sym c.in-Some.ensures.place)) in
    let r = subst (λ v. StandsIf bt v × (place_size bt v < size_of bt c.args.b)) (sym c.value_of-in-Some-place.ensures)
    (place_inside bt c.see_acyclic-2.ensures c.args.b c.requires.asked c.requires.asked_values c.loop-given.index c.in-Some-place.asked (sym c.in-Some-place.ensures.place)) in
    (omega (arith, s.1, r.1, c.decreases), (s.0, (r.0, c.requires.apart)))

pub same_places-returns-then-not-same_place : goal.same_places-returns-then-not-same_place
same_places-returns-then-not-same_place t c =
    decided_no (place_trees c.args.at.now c.args.a ≡ place_trees c.args.bt.now c.args.b) (λ e. not_both c.same_place.result c.if-not-same_place.true (c.same_place.ensures.1
    (place_agrees c.args.at.now c.args.bt.now c.args.a c.args.b c.requires.given_values c.requires.asked_values c.loop-given.index c.in-Some.given c.in-Some-place.asked
    c.value_of.result c.value_of-in-Some-place.result c.value_of.ensures c.value_of-in-Some-place.ensures (sym c.in-Some.ensures.place) (sym c.in-Some-place.ensures.place) e)))

pub same_places-loop-given-smaller : goal.same_places-loop-given-smaller
same_places-loop-given-smaller t c =
    let lt = some_place (slots_of c.args.at.now c.args.a) c.loop-given.index c.in-Some.given (sym c.in-Some.ensures.place) in
    omega (arith, lt)

pub same_places-loop-given-preserved : goal.same_places-loop-given-preserved
same_places-loop-given-preserved t c i lt =
    below_more (λ i. slice_get (place_trees c.args.at.now c.args.a) i ≡ slice_get (place_trees c.args.bt.now c.args.b) i) c.loop-given.index
    (λ i lt. c.loop-given.invariant i lt)
    (place_step c.args.at.now c.args.bt.now c.args.a c.args.b c.requires.given_values c.requires.asked_values c.loop-given.index c.in-Some.given c.in-Some-place.asked
    c.value_of.result c.value_of-in-Some-place.result c.value_of.ensures c.value_of-in-Some-place.ensures (sym c.in-Some.ensures.place) (sym c.in-Some-place.ensures.place)
    (c.same_place.ensures.0 c.if-not-same_place.false)) i lt

pub same_places-returns : goal.same_places-returns
same_places-returns t c =
    ends_decided c.args.at.now c.args.bt.now c.args.a c.args.b c.requires.given_values c.requires.asked_values c.loop-given.index c.place-2.result c.is_none.result
    (sym c.place.ensures.place ∙ c.in_default.is) c.place-2.ensures.place c.is_none.ensures c.loop-given.invariant

pub same_resolved-same_resources-requires-clause-given : goal.same_resolved-same_resources-requires-clause-given
same_resolved-same_resources-requires-clause-given t c = stands_borrow c.args.at.now c.in-Borrow.r (subst (λ v. Stands c.args.at.now (ItemKind.Value v)) c.in-Borrow.is c.requires.given)

pub same_resolved-same_resources-requires-clause-asked : goal.same_resolved-same_resources-requires-clause-asked
same_resolved-same_resources-requires-clause-asked t c = stands_borrow c.args.bt.now c.in-Borrow-b.s (subst (λ v. Stands c.args.bt.now (ItemKind.Value v)) c.in-Borrow-b.is c.requires.asked)

pub same_resolved-same_resources-requires-in-Own-b-clause-given : goal.same_resolved-same_resources-requires-in-Own-b-clause-given
same_resolved-same_resources-requires-in-Own-b-clause-given t c = stands_own c.args.at.now c.in-Own.r (subst (λ v. Stands c.args.at.now (ItemKind.Value v)) c.in-Own.is c.requires.given)

pub same_resolved-same_resources-requires-in-Own-b-clause-asked : goal.same_resolved-same_resources-requires-in-Own-b-clause-asked
same_resolved-same_resources-requires-in-Own-b-clause-asked t c = stands_own c.args.bt.now c.in-Own-b.s (subst (λ v. Stands c.args.bt.now (ItemKind.Value v)) c.in-Own-b.is c.requires.asked)

pub same_resolved-same_places-requires : goal.same_resolved-same_places-requires
same_resolved-same_places-requires t c =
    let at = c.args.at.now in
    let bt = c.args.bt.now in
    let s = ap (λ v. size_of at (ItemKind.Value v)) c.in-Defined.is in
    let r = ap (λ v. size_of bt (ItemKind.Value v)) c.in-Defined-b.is in (
      omega (arith, s, r, c.decreases),
      (
        subst (λ v. Stands at (ItemKind.Value v)) c.in-Defined.is c.requires.given,
        (
          subst (λ v. Stands bt (ItemKind.Value v)) c.in-Defined-b.is c.requires.asked,
          (
            defined_holds at (ValueType.Defined c.in-Defined.d) c.in-Defined.d c.defined_type-given.result.now refl c.defined_type-given.ensures.entry c.defined_type-given.ensures.own,
            (
              defined_holds bt (ValueType.Defined c.in-Defined-b.e) c.in-Defined-b.e c.defined_type-asked.result.now refl c.defined_type-asked.ensures.entry c.defined_type-asked.ensures.own,
              c.requires.apart,
            ),
          ),
        ),
      ),
    )

pub same_resolved-returns-in-Primitive-b : goal.same_resolved-returns-in-Primitive-b
same_resolved-returns-in-Primitive-b t c = primitives_same c.args.at.now c.args.bt.now c.see_acyclic.ensures c.see_acyclic-2.ensures c.args.a c.args.b c.requires.given c.requires.asked c.requires.given_end c.requires.asked_end c.in-Primitive.field-0 c.in-Primitive-b.field-0 c.is_same.result c.in-Primitive.is c.in-Primitive-b.is c.is_same.ensures

pub same_resolved-returns-in_default : goal.same_resolved-returns-in_default
same_resolved-returns-in_default t c = other_primitive c.args.at.now c.args.bt.now c.see_acyclic.ensures c.see_acyclic-2.ensures c.args.a c.args.b c.requires.given c.requires.asked c.requires.given_end c.requires.asked_end c.in-Primitive.field-0 c.in-Primitive.is c.in_default.not-Primitive

pub same_resolved-returns-in-Borrow-b : goal.same_resolved-returns-in-Borrow-b
same_resolved-returns-in-Borrow-b t c = borrows_same c.args.at.now c.args.bt.now c.see_acyclic.ensures c.see_acyclic-2.ensures c.args.a c.args.b c.requires.given c.requires.asked c.requires.given_end c.requires.asked_end c.in-Borrow.r c.in-Borrow-b.s c.same_resources.result c.in-Borrow.is c.in-Borrow-b.is c.same_resources.ensures

pub same_resolved-returns-in_default-b : goal.same_resolved-returns-in_default-b
same_resolved-returns-in_default-b t c = other_borrow c.args.at.now c.args.bt.now c.see_acyclic.ensures c.see_acyclic-2.ensures c.args.a c.args.b c.requires.given c.requires.asked c.requires.given_end c.requires.asked_end c.in-Borrow.r c.in-Borrow.is c.in_default-b.not-Borrow

pub same_resolved-returns-in-Own-b : goal.same_resolved-returns-in-Own-b
same_resolved-returns-in-Own-b t c = owns_same c.args.at.now c.args.bt.now c.see_acyclic.ensures c.see_acyclic-2.ensures c.args.a c.args.b c.requires.given c.requires.asked c.requires.given_end c.requires.asked_end c.in-Own.r c.in-Own-b.s c.same_resources-in-Own-b.result c.in-Own.is c.in-Own-b.is c.same_resources-in-Own-b.ensures

pub same_resolved-returns-in_default-b-2 : goal.same_resolved-returns-in_default-b-2
same_resolved-returns-in_default-b-2 t c = other_own c.args.at.now c.args.bt.now c.see_acyclic.ensures c.see_acyclic-2.ensures c.args.a c.args.b c.requires.given c.requires.asked c.requires.given_end c.requires.asked_end c.in-Own.r c.in-Own.is c.in_default-b-2.not-Own

pub same_resolved-returns-then-same_defined : goal.same_resolved-returns-then-same_defined
same_resolved-returns-then-same_defined t c = defined_decided c.args.at.now c.args.bt.now c.see_acyclic.ensures c.see_acyclic-2.ensures c.args.a c.args.b c.requires.given c.requires.asked c.requires.given_end c.requires.asked_end c.in-Defined.d c.in-Defined-b.e c.defined_type-given.result.now c.defined_type-asked.result.now c.in-Defined.is c.in-Defined-b.is c.defined_type-given.ensures.entry c.defined_type-given.ensures.own c.defined_type-asked.ensures.entry c.defined_type-asked.ensures.own c.same_places.result (c.same_defined.ensures.0 c.if-same_defined.true) c.same_places.ensures

pub same_resolved-returns-else-same_defined : goal.same_resolved-returns-else-same_defined
same_resolved-returns-else-same_defined t c =
    decided_false (SameTree c.args.at.now (ItemKind.Value c.args.a) c.args.bt.now (ItemKind.Value c.args.b)) c.same_defined.result c.if-same_defined.false (λ z. not_both c.same_defined.result c.if-same_defined.false (c.same_defined.ensures.1
    (labels_of c.args.at.now c.args.bt.now c.see_acyclic.ensures c.see_acyclic-2.ensures c.args.a c.args.b c.requires.given c.requires.asked c.requires.given_end c.requires.asked_end c.in-Defined.d c.in-Defined-b.e c.defined_type-given.result.now c.defined_type-asked.result.now c.in-Defined.is c.in-Defined-b.is c.defined_type-given.ensures.entry c.defined_type-given.ensures.own c.defined_type-asked.ensures.entry c.defined_type-asked.ensures.own z)))

pub same_resolved-returns-in_default-b-3 : goal.same_resolved-returns-in_default-b-3
same_resolved-returns-in_default-b-3 t c = other_defined c.args.at.now c.args.bt.now c.see_acyclic.ensures c.see_acyclic-2.ensures c.args.a c.args.b c.requires.given c.requires.asked c.requires.given_end c.requires.asked_end c.in-Defined.d c.in-Defined.is c.in_default-b-3.not-Defined

pub same_values-same_resolved-requires : goal.same_values-same_resolved-requires
same_values-same_resolved-requires t c =
    let at = c.args.at.now in
    let bt = c.args.bt.now in
    let s = end_smaller at c.see_acyclic.ensures c.args.a c.resolve_value_type.result c.resolve_value_type.ensures.resolved c.requires.given in
    let r = end_smaller bt c.see_acyclic-2.ensures c.args.b c.resolve_value_type-2.result c.resolve_value_type-2.ensures.resolved c.requires.asked in (
      omega (arith, s, r, c.decreases),
      (
        c.resolve_value_type.ensures.stands,
        (
          c.resolve_value_type-2.ensures.stands,
          (
            end_no_alias at c.see_acyclic.ensures c.resolve_value_type.ensures.resolved,
            (end_no_alias bt c.see_acyclic-2.ensures c.resolve_value_type-2.ensures.resolved, c.requires.apart),
          ),
        ),
      ),
    )

pub same_values-returns : goal.same_values-returns
same_values-returns t c =
    let at = c.args.at.now in
    let bt = c.args.bt.now in
    let v = c.resolve_value_type.result in
    let w = c.resolve_value_type-2.result in
    same_through at bt (ItemKind.Value v) (ItemKind.Value c.args.a) (ItemKind.Value w) (ItemKind.Value c.args.b) c.same_resolved.result
    (same_tree at c.see_acyclic.ensures (ItemKind.Value v) (ItemKind.Value c.args.a) c.resolve_value_type.ensures.stands c.requires.given c.resolve_value_type.ensures.tree)
    (same_tree bt c.see_acyclic-2.ensures (ItemKind.Value w) (ItemKind.Value c.args.b) c.resolve_value_type-2.ensures.stands c.requires.asked c.resolve_value_type-2.ensures.tree)
    c.same_resolved.ensures
