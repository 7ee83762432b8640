use Rattle.std.proofs.Common.{◌≡◌, Some, refl, sym, ap, subst, ◌∙◌, arith}
use Rattle.wac_types_base.specs.Collection.{slots_of, item_node}
use Rattle.wac_types_base.specs.Reaching.{Reaches, here}
use Rattle.wac_types_merge.specs.Families.{IsUnplain}
use Rattle.wac_types_base.proofs.Walking.{child_smaller, reaches_by, reaches_none, one_more, some_place}
use Rattle.wac_types_merge.proofs.family.+reaches_unplain.Goals as goal
use Rattle.wac_types_merge.proofs.family.+reaches_unplain.Goals.{in-Some-place+else-reaches_unplain, in_default-place}

pub returns-then-is_unplain : goal.returns-then-is_unplain
returns-then-is_unplain t c = (λ _. here (c.if-is_unplain.ensures.0 refl), λ _. refl)

pub reaches_unplain-requires : goal.reaches_unplain-requires
reaches_unplain-requires t c =
    let s = child_smaller c.args.types.now c.in-Some.ensures.acyclic c.args.kind c.requires c.loop-place.at c.in-Some-place.child (sym c.in-Some.ensures.place ∙ ap Some c.in-Some-place.is) in
    (omega (arith, s.1, c.decreases), s.0)

pub returns-then-reaches_unplain : goal.returns-then-reaches_unplain
returns-then-reaches_unplain t c =
    (λ _. reaches_by c.args.types.now (IsUnplain c.args.types.now) c.args.kind c.requires c.loop-place.at c.in-Some-place.child (sym c.in-Some.ensures.place ∙ ap Some c.in-Some-place.is) (c.if-reaches_unplain.ensures.0 refl), λ _. refl)

pub loop-place-smaller : goal.loop-place-smaller
loop-place-smaller t c =
    let lt = some_place (slots_of c.args.types.now c.args.kind) c.loop-place.at c.in-Some.place (sym c.in-Some.ensures.place) in
    omega (arith, lt)

pub loop-place-preserved : goal.loop-place-preserved
loop-place-preserved t c =
    one_more c.args.types.now (IsUnplain c.args.types.now) c.args.kind c.loop-place.at c.loop-place.invariant
    (λ j at r.
    let is : c.in-Some.place ≡ Some j = cc (c.in-Some.ensures.place, at) in
    elim c.match-place-2.branch [
      | in-Some-place+else-reaches_unplain w ↦
          let same : w.in-Some-place.child ≡ j = cc (w.in-Some-place.is, is) in
          absurd (cc (w.if-reaches_unplain.ensures.1 (subst (λ j. Reaches (item_node c.args.types.now) (IsUnplain c.args.types.now) j) (sym same) r)))
      | in_default-place w ↦ absurd (w.in_default-place.not-Some j is)
    ])

pub returns : goal.returns
returns t c = (
  λ h. absurd (cc h),
  λ r. absurd (reaches_none c.args.types.now (IsUnplain c.args.types.now) c.args.kind c.loop-place.at
      (λ i. absurd (cc (c.if-is_unplain.ensures.1 i))) (sym c.place.ensures.place ∙ c.in_default.is) c.loop-place.invariant r),
)
