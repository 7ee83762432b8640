use Rattle.std.specs.Option.{option_or}
use Rattle.std.proofs.Common.{sym, subst, true}
use Rattle.std.proofs.lemmas.Result.{IfErr-weaker, err_from_is_err_and}
use Rattle.wac_graph_causes.specs.Circling.{TellsHeld, late_cause}
use Rattle.wac_graph_causes.specs.Late.{AreLate}
use Rattle.wac_graph_causes.proofs.FirstCauses.{told_after, told_first}
use Rattle.wac_graph_causes.proofs.circles.check_written.Goals as goal

pub returns-in_err-check_late-2-clause-cause : goal.returns-in_err-check_late-2-clause-cause
returns-in_err-check_late-2-clause-cause c =
    let p = err_from_is_err_and c.from_residual-in_err-check_late-2.result c.from_residual-in_err-check_late-2.ensures.1 in
    let t = c.args.types.now in
    let knows = c.in_ok-unnamed.ensures in
    rw p.1
    (λ os ds ps o d k.
    told_after (late_cause true os) (option_or (late_cause true ds) (late_cause true ps)) p.0 (c.in_ok-check_late.ensures.none knows os (subst (λ l. AreLate t l os) (sym c.deref.ensures.value) o))
    (told_first (late_cause true ds) (late_cause true ps) p.0
    (subst (TellsHeld t c.deref-2.result.now) (sym p.2) (c.in_err-check_late-2.ensures.cause knows) ds (subst (λ l. AreLate t l ds) (sym c.deref-2.ensures.value) d))))

pub returns-clause-cause : goal.returns-clause-cause
returns-clause-cause c =
    let t = c.args.types.now in
    let knows = c.in_ok-unnamed.ensures in
    IfErr-weaker c.check_late-3.result _ _
    (λ e told os ds ps o d k.
    told_after (late_cause true os) (option_or (late_cause true ds) (late_cause true ps)) e (c.in_ok-check_late.ensures.none knows os (subst (λ l. AreLate t l os) (sym c.deref.ensures.value) o))
    (told_after (late_cause true ds) (late_cause true ps) e (c.in_ok-check_late-2.ensures.none knows ds (subst (λ l. AreLate t l ds) (sym c.deref-2.ensures.value) d))
    (told knows ps (subst (λ l. AreLate t l ps) (sym c.deref-3.ensures.value) k))))
    c.check_late-3.ensures.cause
