use Rattle.std.proofs.Common.{◌≡◌, Some, refl, sym, ap, subst, ◌∙◌, arith}
use Rattle.wac_types_base.specs.Collection.{slots_of, item_node}
use Rattle.wac_types_base.specs.Reaching.{Reaches, here}
use Rattle.wac_types_merge.specs.Families.{IsForeign}
use Rattle.wac_types_base.proofs.Walking.{child_smaller, reaches_by, reaches_none, one_more, some_place}
use Rattle.wac_types_merge.proofs.family.+reaches_foreign.Goals as goal
use Rattle.wac_types_merge.proofs.family.+reaches_foreign.Goals.{in-Some-place+else-reaches_foreign, in_default-place}

pub returns-then-is_foreign : goal.returns-then-is_foreign
returns-then-is_foreign t c = (λ _. here (c.if-is_foreign.ensures.0 refl), λ _. refl)

pub reaches_foreign-requires : goal.reaches_foreign-requires
reaches_foreign-requires t c =
    let s = child_smaller c.args.types.now c.in-Some.ensures.acyclic c.args.kind c.requires.stands c.loop-place.at c.in-Some-place.child (sym c.in-Some.ensures.place ∙ ap Some c.in-Some-place.is) in
    (omega (arith, s.1, c.decreases), (c.requires.interface, s.0))

pub returns-then-reaches_foreign : goal.returns-then-reaches_foreign
returns-then-reaches_foreign t c =
    (λ _. reaches_by c.args.types.now (IsForeign c.args.types.now c.args.id) c.args.kind c.requires.stands c.loop-place.at c.in-Some-place.child (sym c.in-Some.ensures.place ∙ ap Some c.in-Some-place.is) (c.if-reaches_foreign.ensures.0 refl), λ _. refl)

pub loop-place-smaller : goal.loop-place-smaller
loop-place-smaller t c =
    let lt = some_place (slots_of c.args.types.now c.args.kind) c.loop-place.at c.in-Some.place (sym c.in-Some.ensures.place) in
    omega (arith, lt)

pub loop-place-preserved : goal.loop-place-preserved
loop-place-preserved t c =
    one_more c.args.types.now (IsForeign c.args.types.now c.args.id) c.args.kind c.loop-place.at c.loop-place.invariant
    (λ j at r.
    let is : c.in-Some.place ≡ Some j = cc (c.in-Some.ensures.place, at) in
    elim c.match-place-2.branch [
      | in-Some-place+else-reaches_foreign w ↦
          let same : w.in-Some-place.child ≡ j = cc (w.in-Some-place.is, is) in
          absurd (cc (w.if-reaches_foreign.ensures.1 (subst (λ j. Reaches (item_node c.args.types.now) (IsForeign c.args.types.now c.args.id) j) (sym same) r)))
      | in_default-place w ↦ absurd (w.in_default-place.not-Some j is)
    ])

pub returns : goal.returns
returns t c = (
  λ h. absurd (cc h),
  λ r. absurd (reaches_none c.args.types.now (IsForeign c.args.types.now c.args.id) c.args.kind c.loop-place.at
      (λ i. absurd (cc (c.if-is_foreign.ensures.1 i))) (sym c.place.ensures.place ∙ c.in_default.is) c.loop-place.invariant r),
)
