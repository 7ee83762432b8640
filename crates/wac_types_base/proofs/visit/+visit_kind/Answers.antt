use Rattle.std.proofs.Common.{◌+◌, Some, Err, sym, ap, subst, ◌∙◌, arith}
use Rattle.std.proofs.lemmas.Result.{err_from_is_err_and}
use Rattle.wac_types_base.specs.Collection.{slots_of}
use Rattle.wac_types_base.specs.Visiting.{IsVisited, call_with}
use Rattle.wac_types_base.proofs.Walking.{child_smaller, some_place}
use Rattle.wac_types_base.proofs.Visited.{Rest, rest_hole, rest_next, visited_all, own_refused, visited_refused, no_child}
use Rattle.wac_types_base.proofs.visit.+visit_kind.Goals as goal
use Rattle.wac_types_base.proofs.visit.+visit_kind.Goals.{in-Some-place+in_ok-visit_kind, in_default-place}

pub visit_kind-requires : goal.visit_kind-requires
visit_kind-requires g t c κs within =
    let s = child_smaller c.args.types.now c.place.ensures.acyclic c.args.kind c.requires.stands c.loop-place.at c.in-Some-place.child (sym c.in-Some.ensures.place ∙ ap Some c.in-Some-place.is) in
    (omega (arith, s.1, c.decreases), (within.0, (within.1, (s.0, c.loop-place.invariant.0))))

pub returns-in_err-visit_own-clause-visited : goal.returns-in_err-visit_own-clause-visited
returns-in_err-visit_own-clause-visited g t c =
    let p = err_from_is_err_and c.from_residual.result c.from_residual.ensures.1 in
    let visits = call_with (goal.F-step g) c.args.types.now in
    rw p.1
    (subst (λ e. IsVisited visits c.args.types.now c.args.kind c.args.visitor.now (Err e) c.visit_own.new.visitor) (sym p.2)
    (own_refused visits c.args.types.now c.args.kind c.see_acyclic.ensures c.requires.stands c.args.visitor.now c.visit_own.new.visitor c.in_err-visit_own.field-0.0 c.in_err-visit_own.ensures.called))

pub returns-in_err-visit_kind-clause-visited : goal.returns-in_err-visit_kind-clause-visited
returns-in_err-visit_kind-clause-visited g t c =
    let p = err_from_is_err_and c.from_residual-in_err-visit_kind.result c.from_residual-in_err-visit_kind.ensures.1 in
    let visits = call_with (goal.F-step g) c.args.types.now in
    rw p.1
    (subst (λ e. IsVisited visits c.args.types.now c.args.kind c.args.visitor.now (Err e) c.visit_kind.new.visitor) (sym p.2)
    (visited_refused visits c.args.types.now c.args.kind c.see_acyclic.ensures c.requires.stands c.args.visitor.now c.visit_own.new.visitor c.loop-place.visitor c.visit_kind.new.visitor c.loop-place.at c.in-Some-place.child c.in_err-visit_kind.field-0.0
    c.in_ok-visit_own.ensures.called c.loop-place.invariant.1 (sym c.in-Some.ensures.place ∙ ap Some c.in-Some-place.is) c.in_err-visit_kind.ensures.visited))

pub loop-place-smaller : goal.loop-place-smaller
loop-place-smaller g t c =
    let lt = some_place (slots_of c.args.types.now c.args.kind) c.loop-place.at c.in-Some.place (sym c.in-Some.ensures.place) in
    omega (arith, lt)

pub loop-place-preserved : goal.loop-place-preserved
loop-place-preserved g t c = (
  elim c.match-place-2.branch [
    | in-Some-place+in_ok-visit_kind w ↦ subst (λ f. goal.F-IsAlwaysCallable g f) (sym w.visitor-is) w.visit_kind.ensures.callable
    | in_default-place w ↦ subst (λ f. goal.F-IsAlwaysCallable g f) (sym w.visitor-is) c.loop-place.invariant.0
  ],
  elim c.match-place-2.branch [
    | in-Some-place+in_ok-visit_kind w ↦
        subst (λ f. Rest (call_with (goal.F-step g) c.args.types.now) c.args.types.now c.args.kind c.visit_own.new.visitor f (c.loop-place.at + 1)) (sym w.visitor-is)
        (rest_next (call_with (goal.F-step g) c.args.types.now) c.args.types.now c.args.kind c.visit_own.new.visitor c.loop-place.visitor w.visit_kind.new.visitor c.loop-place.at w.in-Some-place.child c.loop-place.invariant.1
        (sym c.in-Some.ensures.place ∙ ap Some w.in-Some-place.is) w.in_ok-visit_kind.ensures.visited)
    | in_default-place w ↦
        subst (λ f. Rest (call_with (goal.F-step g) c.args.types.now) c.args.types.now c.args.kind c.visit_own.new.visitor f (c.loop-place.at + 1)) (sym w.visitor-is)
        (rest_hole (call_with (goal.F-step g) c.args.types.now) c.args.types.now c.args.kind c.visit_own.new.visitor c.loop-place.visitor c.loop-place.at c.loop-place.invariant.1
        (sym c.in-Some.ensures.place ∙ ap Some (no_child c.in-Some.place w.in_default-place.not-Some)))
  ],
)

pub returns-clause-visited : goal.returns-clause-visited
returns-clause-visited g t c =
    visited_all _ c.args.types.now c.args.kind c.args.visitor.now c.visit_own.new.visitor c.loop-place.visitor c.loop-place.at c.in_ok-visit_own.ensures.called c.loop-place.invariant.1 (sym c.place.ensures.place ∙ c.in_default.is)
