use Rattle.std.proofs.Common.{Some, sym, ap, subst, ◌∙◌, arith}
use Rattle.indexmap.proofs.MapLemmas.{OnOk-map}
use Rattle.wac_types_base.specs.Collection.{slots_of}
use Rattle.wac_types_base.proofs.Walking.{child_smaller, some_place}
use Rattle.wac_types_base.proofs.Visited.{no_child}
use Rattle.wac_graph_core.specs.Reaching.{Marks}
use Rattle.wac_graph_core.proofs.Reached.{own_marked, marked_gathers, gathered_first, gathered_hole, gathered_next, gathers_all, closed_all}
use Rattle.wac_graph_core.proofs.reach.+mark_reached.Goals as goal
use Rattle.wac_graph_core.proofs.reach.+mark_reached.Goals.{in-Some-place+in_ok-mark_reached, in_default-place}

pub returns-then-is_marked-clause-gathers : goal.returns-then-is_marked-clause-gathers
returns-then-is_marked-clause-gathers t c =
    let mine = own_marked c.args.types.now c.args.kind c.defined_of-own.result c.args.marks.now c.defined_of-own.ensures (c.is_marked.ensures.0 c.if-is_marked.true) in
    marked_gathers c.args.types.now c.args.kind c.args.marks.now mine c.requires.closed

pub mark_reached-requires : goal.mark_reached-requires
mark_reached-requires t c =
    let at = sym c.in-Some.ensures.place ∙ ap Some c.in-Some-place.is in
    let s = child_smaller c.args.types.now c.place.ensures.acyclic c.args.kind c.requires.stands c.loop-place.at c.in-Some-place.child at in
    (omega (arith, s.1, c.decreases), (s.0, c.loop-place.invariant.closed))

pub loop-place-init : goal.loop-place-init
loop-place-init t c = rw c.skipped-at.ensures (gathered_first c.args.types.now c.args.kind c.args.marks.now c.requires.closed)

pub loop-place-smaller : goal.loop-place-smaller
loop-place-smaller t c =
    let lt = some_place (slots_of c.args.types.now c.args.kind) c.loop-place.at c.in-Some.place (sym c.in-Some.ensures.place) in
    omega (arith, lt)

pub loop-place-preserved : goal.loop-place-preserved
loop-place-preserved t c = elim c.match-place-2.branch [
  | in-Some-place+in_ok-mark_reached w ↦
      rw w.marks-is (gathered_next c.args.types.now c.args.kind c.args.marks.now c.loop-place.at w.in-Some-place.child c.loop-place.marks _
      (sym c.in-Some.ensures.place ∙ ap Some w.in-Some-place.is) w.in_ok-mark_reached.ensures.closed w.in_ok-mark_reached.ensures.gathers c.loop-place.invariant)
  | in_default-place w ↦
      rw w.marks-is (gathered_hole c.args.types.now c.args.kind c.args.marks.now c.loop-place.at c.loop-place.marks
      (sym c.in-Some.ensures.place ∙ ap Some (no_child c.in-Some.place w.in_default-place.not-Some)) c.loop-place.invariant)
]

pub returns-clause-closed : goal.returns-clause-closed
returns-clause-closed t c =
    OnOk-map c.mark.result _ _ (λ own. closed_all c.args.types.now c.args.kind c.args.marks.now c.loop-place.at c.loop-place.marks c.mark.new.marks
    (sym c.place.ensures.place ∙ c.in_default.is) c.loop-place.invariant (subst (λ o. Marks o c.loop-place.marks c.mark.new.marks) c.defined_of-own.ensures own)) c.mark.ensures

pub returns-clause-gathers : goal.returns-clause-gathers
returns-clause-gathers t c =
    OnOk-map c.mark.result _ _ (λ own. gathers_all c.args.types.now c.args.kind c.args.marks.now c.loop-place.at c.loop-place.marks c.mark.new.marks
    (sym c.place.ensures.place ∙ c.in_default.is) c.loop-place.invariant (subst (λ o. Marks o c.loop-place.marks c.mark.new.marks) c.defined_of-own.ensures own)) c.mark.ensures
