use Rattle.std.proofs.Common.{◌≡◌, slice_get, sym, ◌∙◌, arith, below_more}
use Rattle.wac_types_base.specs.Collection.{slots_of}
use Rattle.wac_types_base.proofs.Walking.{some_place}
use Rattle.wac_types_fit.proofs.ValueTrees.{decided_no, not_both}
use Rattle.wac_types_same.specs.Same.{slot_stated, places_stated}
use Rattle.wac_types_same.proofs.Places.{place_inside, said_agrees, said_step, ends_decided, same_label, same_said}
use Rattle.wac_types_same.proofs.same.+stating.Goals as goal

pub same_places-same_place-requires : goal.same_places-same_place-requires
same_places-same_place-requires t c =
    let y = c.args.types.now in
    let s = place_inside y c.see_acyclic.ensures c.args.a c.requires.first c.loop-first.at c.in-Some.first (sym c.in-Some.ensures.place) in
    let r = place_inside y c.see_acyclic.ensures c.args.b c.requires.second c.loop-first.at c.in-Some-place.second (sym c.in-Some-place.ensures.place) in
    (omega (arith, s.1, r.1, c.decreases), (s.0, r.0))

pub same_places-returns-then-not-same_place : goal.same_places-returns-then-not-same_place
same_places-returns-then-not-same_place t c =
    let y = c.args.types.now in
    decided_no (places_stated y c.args.a ≡ places_stated y c.args.b) (λ e. not_both c.same_place.result c.if-not-same_place.true (c.same_place.ensures.1
    (said_agrees (slot_stated y) (slots_of y c.args.a) (slots_of y c.args.b) c.loop-first.at c.in-Some.first c.in-Some-place.second (sym c.in-Some.ensures.place) (sym c.in-Some-place.ensures.place) e)))

pub same_places-loop-first-smaller : goal.same_places-loop-first-smaller
same_places-loop-first-smaller t c =
    let lt = some_place (slots_of c.args.types.now c.args.a) c.loop-first.at c.in-Some.first (sym c.in-Some.ensures.place) in
    omega (arith, lt)

pub same_places-loop-first-preserved : goal.same_places-loop-first-preserved
same_places-loop-first-preserved t c i lt =
    let y = c.args.types.now in
    below_more (λ i. slice_get (places_stated y c.args.a) i ≡ slice_get (places_stated y c.args.b) i) c.loop-first.at
    (λ i lt. c.loop-first.invariant i lt)
    (said_step (slot_stated y) (slots_of y c.args.a) (slots_of y c.args.b) c.loop-first.at c.in-Some.first c.in-Some-place.second (sym c.in-Some.ensures.place) (sym c.in-Some-place.ensures.place)
    (c.same_place.ensures.0 c.if-not-same_place.false)) i lt

pub same_places-returns : goal.same_places-returns
same_places-returns t c =
    let y = c.args.types.now in
    ends_decided (slot_stated y) (slots_of y c.args.a) (slots_of y c.args.b) c.loop-first.at c.place-2.result c.is_none.result
    (sym c.place.ensures.place ∙ c.in_default.is) c.place-2.ensures.place c.is_none.ensures c.loop-first.invariant

pub states_same-returns-then-same_labels : goal.states_same-returns-then-same_labels
states_same-returns-then-same_labels t c =
    same_said c.args.types.now c.see_acyclic.ensures c.args.a c.args.b c.requires.first c.requires.second c.same_places.result (c.same_labels.ensures.0 c.if-same_labels.true) c.same_places.ensures

pub states_same-returns-else-same_labels : goal.states_same-returns-else-same_labels
states_same-returns-else-same_labels t c = (
  λ x. absurd (not_both c.same_labels.result c.if-same_labels.false x),
  λ e. c.same_labels.ensures.1 (same_label c.args.types.now c.see_acyclic.ensures c.args.a c.args.b c.requires.first c.requires.second e),
)
