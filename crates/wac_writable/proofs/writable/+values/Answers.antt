use Rattle.std.proofs.Common.{Some, inl, refl, sym, ap, ◌∙◌, subst, arith}
use Rattle.wac_types_base.specs.declared.item.ValueType.{ValueType}
use Rattle.wac_types_base.specs.declared.item.ItemKind.{ItemKind}
use Rattle.wac_types_base.specs.Collection.{slots_of}
use Rattle.wac_types_base.proofs.Walking.{child_smaller, some_place}
use Rattle.wac_writable.specs.Holders.{Keeps}
use Rattle.wac_writable.specs.Values.{id_fails, some_id_fails, fails_unused, places_fail}
use Rattle.wac_writable.proofs.ValueLaws.{value_slot_is, primitive_fails, defined_by_places, keeps_on, remembered, place_settles, place_leaves, none_left}
use Rattle.wac_writable.proofs.writable.+values.Goals.{places_fail-in-Some-value_in_place+in_ok-value_fails+else-branch, places_fail-in_default-value_in_place}
use Rattle.wac_writable.proofs.writable.+values.Goals as goal

pub value_fails-returns-in-Primitive-clause-fails : goal.value_fails-returns-in-Primitive-clause-fails
value_fails-returns-in-Primitive-clause-fails t c s h w = primitive_fails c.args.test.types.now h c.see_acyclic.ensures c.in-Primitive.field-0 ∙ ap (λ v. id_fails c.args.test.types.now v h) (sym c.in-Primitive.is)

pub defined_fails-returns-clause-fails : goal.defined_fails-returns-clause-fails
defined_fails-returns-clause-fails t c s h w =
    let C = c.args.test.types.now in
    let v = c.in_ok-below.ensures.keeps C (inl refl) h w in
    c.in_ok-fails.ensures s h v.shows ∙ ap (λ b. fails_unused C (ValueType.Defined c.args.id) b h) (c.in_ok-below.ensures.fails s h w) ∙ sym (defined_by_places C h c.see_acyclic.ensures c.args.id s)

pub defined_fails-returns-clause-keeps : goal.defined_fails-returns-clause-keeps
defined_fails-returns-clause-keeps t c =
    let C = c.args.test.types.now in
    let s = c.if-not-has.ensures.0 refl in
    remembered C c.args.holder.now c.places_fail.new.holder c.remember.new.self c.args.id c.in_ok-fails.fails c.in_ok-below.ensures.keeps c.in_ok-remember.ensures s
    (λ h w. c.in_ok-fails.ensures s h (c.in_ok-below.ensures.keeps C (inl refl) h w).shows ∙ ap (λ b. fails_unused C (ValueType.Defined c.args.id) b h) (c.in_ok-below.ensures.fails s h w) ∙ sym (defined_by_places C h c.see_acyclic.ensures c.args.id s))

pub places_fail-value_fails-requires : goal.places_fail-value_fails-requires
places_fail-value_fails-requires t c =
    let at = sym c.in-Some.ensures.place ∙ ap Some (value_slot_is c.in-Some.place c.in-Some-value_in_place.ty (sym c.in-Some-value_in_place.ensures)) in
    let s = child_smaller c.args.test.types.now c.in-Some.ensures.acyclic c.args.kind (c.if-not-has.ensures.0 refl) c.loop-place.at (ItemKind.Value c.in-Some-value_in_place.ty) at in
    (omega (arith, s.1, c.decreases), tt)

pub places_fail-loop-place-smaller : goal.places_fail-loop-place-smaller
places_fail-loop-place-smaller t c =
    let lt = some_place (slots_of c.args.test.types.now c.args.kind) c.loop-place.at c.in-Some.place (sym c.in-Some.ensures.place) in
    omega (arith, lt)

pub places_fail-returns-then-branch-clause-keeps : goal.places_fail-returns-then-branch-clause-keeps
places_fail-returns-then-branch-clause-keeps t c =
    keeps_on c.args.test.types.now c.args.holder.now c.loop-place.holder c.value_fails.new.holder c.loop-place.invariant.0 c.in_ok-value_fails.ensures.keeps

pub places_fail-returns-then-branch-clause-fails : goal.places_fail-returns-then-branch-clause-fails
places_fail-returns-then-branch-clause-fails t c s h w =
    let C = c.args.test.types.now in
    let at = sym c.in-Some.ensures.place ∙ ap Some (value_slot_is c.in-Some.place c.in-Some-value_in_place.ty (sym c.in-Some-value_in_place.ensures)) in
    let stands = (child_smaller C c.in-Some.ensures.acyclic c.args.kind s c.loop-place.at (ItemKind.Value c.in-Some-value_in_place.ty) at).0 in
    place_settles C h (slots_of C c.args.kind) c.loop-place.at c.in-Some.place (places_fail C c.args.kind h) (sym c.in-Some.ensures.place) (c.loop-place.invariant.1 h w)
    (ap (some_id_fails C h) (sym c.in-Some-value_in_place.ensures) ∙ sym (c.in_ok-value_fails.ensures.fails stands h (c.loop-place.invariant.0 C (inl refl) h w)) ∙ c.if-branch.true)

pub places_fail-loop-place-preserved : goal.places_fail-loop-place-preserved
places_fail-loop-place-preserved t c = elim c.match-value_in_place.branch [
  | places_fail-in-Some-value_in_place+in_ok-value_fails+else-branch w ↦
      let C = c.args.test.types.now in
      let at = sym c.in-Some.ensures.place ∙ ap Some (value_slot_is c.in-Some.place w.in-Some-value_in_place.ty (sym w.in-Some-value_in_place.ensures)) in
      let stands = (child_smaller C c.in-Some.ensures.acyclic c.args.kind (c.if-not-has.ensures.0 refl) c.loop-place.at (ItemKind.Value w.in-Some-value_in_place.ty) at).0 in (
        subst (Keeps C c.args.holder.now) (sym w.holder-is) (keeps_on C c.args.holder.now c.loop-place.holder w.value_fails.new.holder c.loop-place.invariant.0 w.in_ok-value_fails.ensures.keeps),
        λ h v. place_leaves C h (slots_of C c.args.kind) c.loop-place.at c.in-Some.place (places_fail C c.args.kind h) (sym c.in-Some.ensures.place) (c.loop-place.invariant.1 h v)
            (ap (some_id_fails C h) (sym w.in-Some-value_in_place.ensures) ∙ sym (w.in_ok-value_fails.ensures.fails stands h (c.loop-place.invariant.0 C (inl refl) h v)) ∙ w.if-branch.false),
      )
  | places_fail-in_default-value_in_place w ↦
      let C = c.args.test.types.now in (
        subst (Keeps C c.args.holder.now) (sym w.holder-is) c.loop-place.invariant.0,
        λ h v. place_leaves C h (slots_of C c.args.kind) c.loop-place.at c.in-Some.place (places_fail C c.args.kind h) (sym c.in-Some.ensures.place) (c.loop-place.invariant.1 h v)
            (ap (some_id_fails C h) (sym w.in_default-value_in_place.ensures)),
      )
]

pub places_fail-returns-clause-fails : goal.places_fail-returns-clause-fails
places_fail-returns-clause-fails t c s h w =
    sym (c.loop-place.invariant.1 h w ∙ none_left c.args.test.types.now h (slots_of c.args.test.types.now c.args.kind) c.loop-place.at (sym c.in_default.ensures.place))
