use Rattle.std.proofs.Common.{sym, subst}
use Rattle.std.proofs.lemmas.Result.{err_from_is_err_and}
use Rattle.wac_types_base.proofs.Loops.{get-place}
use Rattle.wac_graph_causes.specs.Circling.{TellsLateAt}
use Rattle.wac_graph_causes.proofs.CircleLaws.{late_begin, late_next, late_nowhere, late_told, one_stands}
use Rattle.wac_graph_causes.proofs.circles.check_each.Goals as goal

pub loop-one-init : goal.loop-one-init
loop-one-init c = λ knows stand. late_begin c.args.test.is_outer c.args.test.types.now c.args.late.now

pub loop-one-preserved : goal.loop-one-preserved
loop-one-preserved c = λ knows stand.
    let t = c.args.test in
    let ls = c.args.late.now in
    let i = c.loop-one.one-index in
    let l = c.one-item.result in
    let at = get-place ls i l c.loop-one-test.true c.one-item.is in
    late_next t.is_outer t.types.now ls i (c.loop-one.invariant knows stand) l at (c.in_ok-check_one.ensures.none knows (one_stands t.types.now ls stand i l at))

pub returns-in_err-check_one-clause-cause : goal.returns-in_err-check_one-clause-cause
returns-in_err-check_one-clause-cause c =
    let p = err_from_is_err_and c.from_residual.result c.from_residual.ensures.1 in
    let t = c.args.test in
    let ls = c.args.late.now in
    let i = c.loop-one.one-index in
    let l = c.one-item.result in
    rw p.1
    (λ knows stand.
    let at = get-place ls i l c.loop-one-test.true c.one-item.is in
    late_told t.is_outer t.types.now ls i (c.loop-one.invariant knows stand) l at p.0
    (subst (TellsLateAt t l) (sym p.2) c.in_err-check_one.ensures.cause knows (one_stands t.types.now ls stand i l at)))

pub returns-clause-none : goal.returns-clause-none
returns-clause-none c = λ knows stand.
    late_nowhere c.args.test.is_outer c.args.test.types.now c.args.late.now c.loop-one.one-index (c.loop-one.invariant knows stand) c.loop-one-test.false
