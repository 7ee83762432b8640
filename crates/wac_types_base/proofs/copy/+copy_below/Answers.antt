use Rattle.std.proofs.Common.{Some, sym, ap, ◌∙◌, arith}
use Rattle.wac_types_base.specs.Collection.{slots_of}
use Rattle.wac_types_base.proofs.Walking.{child_smaller, some_place, no_place, slice_get-Among}
use Rattle.wac_types_base.proofs.copy.+copy_below.Goals as goal

pub copy_below-requires : goal.copy_below-requires
copy_below-requires t c =
    let s = child_smaller c.args.from.now c.in-Some.ensures.acyclic c.args.kind c.requires.stands c.loop-place.at c.in-Some-place.child (sym c.in-Some.ensures.place ∙ ap Some c.in-Some-place.is) in
    (omega (arith, s.1, c.decreases), (s.0, c.loop-place.invariant.copies))

pub loop-place-smaller : goal.loop-place-smaller
loop-place-smaller t c =
    let lt = some_place (slots_of c.args.from.now c.args.kind) c.loop-place.at c.in-Some.place (sym c.in-Some.ensures.place) in
    omega (arith, lt)

pub copy_kind-requires-clause-places : goal.copy_kind-requires-clause-places
copy_kind-requires-clause-places t c j m =
    let xs = slots_of c.args.from.now c.args.kind in
    let at = slice_get-Among xs (Some j) m in
    c.loop-place.invariant.before at.0 j (no_place xs c.loop-place.at at.0 (sym c.place.ensures.place ∙ c.in_default.is) at.1) at.2
