use Rattle.std.proofs.Common.{◌<◌, length, get_or, sym, subst, refl, inl, inr, arith}
use Rattle.wac_types_base.specs.Graph.{Among}
use Rattle.wac_types_merge.proofs.Families.{Leads, one_before, all_before, leads_there, not_used, use_inside}
use Rattle.wac_types_merge.proofs.family.+uses_such.Goals as goal
use Rattle.wac_types_base.proofs.Copying.{get_or-Among}
use Rattle.wac_types_base.proofs.Used.{place_or}

pub returns-then-states_same : goal.returns-then-states_same
returns-then-states_same t c =
    let us = c.values-uses.result.now in
    let within : c.loop-index.index < length us = omega arith in
    let u = get_or us c.loop-index.index c.index-uses-index.result in (
      λ _. leads_there c.args.types.now c.args.target c.args.id c.interface.result.now c.interface.ensures.entry u (subst (Among u) c.values-uses.ensures (get_or-Among us c.loop-index.index c.index-uses-index.result within))
          (inl (c.if-states_same.ensures.0 refl)),
      λ _. refl,
    )

pub states_same-requires-clause-first : goal.states_same-requires-clause-first
states_same-requires-clause-first t c =
    let us = c.values-uses.result.now in
    let within : c.loop-index.index < length us = omega arith in
    let u = get_or us c.loop-index.index c.index-uses-index.result in
    (use_inside c.args.types.now c.interface.ensures.acyclic c.args.id c.interface.result.now c.requires.interface c.interface.ensures.entry c.interface.ensures.own u
    (subst (Among u) c.values-uses.ensures (get_or-Among us c.loop-index.index c.index-uses-index.result within))).0

pub uses_such-requires : goal.uses_such-requires
uses_such-requires t c =
    let us = c.values-uses.result.now in
    let within : c.loop-index.index < length us = omega arith in
    let u = get_or us c.loop-index.index c.index-uses-index.result in
    let s =
    use_inside c.args.types.now c.interface.ensures.acyclic c.args.id c.interface.result.now c.requires.interface c.interface.ensures.entry c.interface.ensures.own u
    (subst (Among u) c.values-uses.ensures (get_or-Among us c.loop-index.index c.index-uses-index.result within)) in
    let less = s.1 in
    (omega (arith, less, c.decreases), (s.0, c.requires.target))

pub returns-then-uses_such : goal.returns-then-uses_such
returns-then-uses_such t c =
    let us = c.values-uses.result.now in
    let within : c.loop-index.index < length us = omega arith in
    let u = get_or us c.loop-index.index c.index-uses-index.result in (
      λ _. leads_there c.args.types.now c.args.target c.args.id c.interface.result.now c.interface.ensures.entry u (subst (Among u) c.values-uses.ensures (get_or-Among us c.loop-index.index c.index-uses-index.result within))
          (inr (c.if-uses_such.ensures.0 refl)),
      λ _. refl,
    )

pub loop-index-preserved : goal.loop-index-preserved
loop-index-preserved t c =
    let us = c.values-uses.result.now in
    let within : c.loop-index.index < length us = omega arith in
    let u = get_or us c.loop-index.index c.index-uses-index.result in
    one_before us (λ u. Leads c.args.types.now c.args.target u → ⊥) c.loop-index.index u (place_or us c.loop-index.index c.index-uses-index.result within) c.loop-index.invariant
    (λ h. elim h [
      | inl e ↦ absurd (cc (c.if-states_same.ensures.1 e))
      | inr r ↦ absurd (cc (c.if-uses_such.ensures.1 r))
    ])

pub returns : goal.returns
returns t c =
    let us = c.values-uses.result.now in (
      λ h. absurd (cc h),
      λ r. absurd (not_used c.args.types.now c.args.target c.args.id c.interface.result.now c.interface.ensures.entry
          (λ u m. all_before us (λ u. Leads c.args.types.now c.args.target u → ⊥) c.loop-index.index (omega arith) c.loop-index.invariant u (subst (Among u) (sym c.values-uses.ensures) m)) r),
    )
