use Rattle.std.proofs.Common.{Some, refl, sym, ap, subst, ◌∙◌, arith}
use Rattle.wac_types_base.specs.Collection.{slots_of}
use Rattle.wac_types_base.proofs.Walking.{child_smaller, some_place}
use Rattle.wac_types_base.proofs.Visited.{no_child}
use Rattle.wac_graph_core.specs.Reaching.{reaches_own, Marks}
use Rattle.wac_graph_core.proofs.Reached.{own_marked, sought_hole, sought_next, found_below, not_reached, without_all}
use Rattle.wac_graph_core.proofs.reach.+reaches.Goals as goal
use Rattle.wac_graph_core.proofs.reach.+reaches.Goals.{in-Some-place+in_ok-found+else-found, in_default-place}

pub returns-then-is_wanted-clause-answer : goal.returns-then-is_wanted-clause-answer
returns-then-is_wanted-clause-answer t c = (λ _. reaches_own (sym c.defined_of-own.ensures ∙ c.is_wanted.ensures.0 c.if-is_wanted.true), λ _. refl)

pub returns-then-is_marked-clause-answer : goal.returns-then-is_marked-clause-answer
returns-then-is_marked-clause-answer t c =
    let mine = own_marked c.args.types.now c.args.kind c.defined_of-own.result c.args.without.now c.defined_of-own.ensures (c.is_marked.ensures.0 c.if-is_marked.true) in
    (λ e. absurd (cc e), λ r. absurd (c.requires.without c.args.kind mine r))

pub reaches-requires : goal.reaches-requires
reaches-requires t c =
    let at = sym c.in-Some.ensures.place ∙ ap Some c.in-Some-place.is in
    let s = child_smaller c.args.types.now c.place.ensures.acyclic c.args.kind c.requires.stands c.loop-place.at c.in-Some-place.child at in
    (omega (arith, s.1, c.decreases), (s.0, c.loop-place.invariant.without))

pub returns-then-found-clause-answer : goal.returns-then-found-clause-answer
returns-then-found-clause-answer t c =
    let at = sym c.in-Some.ensures.place ∙ ap Some c.in-Some-place.is in
    (λ _. found_below c.args.types.now c.args.kind c.args.wanted c.loop-place.at c.in-Some-place.child c.loop-place.without at c.loop-place.invariant (c.in_ok-found.ensures.answer.0 c.if-found.true), λ _. refl)

pub loop-place-smaller : goal.loop-place-smaller
loop-place-smaller t c =
    let lt = some_place (slots_of c.args.types.now c.args.kind) c.loop-place.at c.in-Some.place (sym c.in-Some.ensures.place) in
    omega (arith, lt)

pub loop-place-preserved : goal.loop-place-preserved
loop-place-preserved t c = elim c.match-place-2.branch [
  | in-Some-place+in_ok-found+else-found w ↦
      rw w.without-is (sought_next c.args.types.now c.args.kind c.args.wanted c.loop-place.at w.in-Some-place.child c.loop-place.without _
      (sym c.in-Some.ensures.place ∙ ap Some w.in-Some-place.is) w.in_ok-found.ensures.without (λ r. absurd (cc (w.if-found.false, w.in_ok-found.ensures.answer.1 r))) c.loop-place.invariant)
  | in_default-place w ↦
      rw w.without-is (sought_hole c.args.types.now c.args.kind c.args.wanted c.loop-place.at c.loop-place.without
      (sym c.in-Some.ensures.place ∙ ap Some (no_child c.in-Some.place w.in_default-place.not-Some)) c.loop-place.invariant)
]

pub returns-clause-without : goal.returns-clause-without
returns-clause-without t c =
    without_all c.args.types.now c.args.kind c.args.wanted c.loop-place.at c.loop-place.without c.mark.new.marks (λ is. absurd (cc (c.if-is_wanted.false, c.is_wanted.ensures.1 (c.defined_of-own.ensures ∙ is))))
    (sym c.place.ensures.place ∙ c.in_default.is) c.loop-place.invariant (subst (λ o. Marks o c.loop-place.without c.mark.new.marks) c.defined_of-own.ensures c.in_ok-mark.ensures)

pub returns-clause-answer : goal.returns-clause-answer
returns-clause-answer t c = (
  λ e. absurd (cc e),
  λ r. absurd (not_reached c.args.types.now c.args.kind c.args.wanted c.loop-place.at c.loop-place.without c.mark.new.marks (λ is. absurd (cc (c.if-is_wanted.false, c.is_wanted.ensures.1 (c.defined_of-own.ensures ∙ is))))
      (sym c.place.ensures.place ∙ c.in_default.is) c.loop-place.invariant (subst (λ o. Marks o c.loop-place.without c.mark.new.marks) c.defined_of-own.ensures c.in_ok-mark.ensures) r),
)
