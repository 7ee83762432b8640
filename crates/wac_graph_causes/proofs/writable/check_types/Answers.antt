use Rattle.std.proofs.lemmas.Result.{on_ok_weaker, IfErr-weaker, err_from_is_err_and}
use Rattle.std.proofs.Common.{sym, ap, subst, ◌∙◌}
use Rattle.std.specs.Option.{option_or}
use Rattle.wac_graph_causes.specs.Unwritable.{TellsUnwritable, TellsOuterCause, TellsDefinitionCause, outer_cause, outers_in, defined_cause, packages_unless}
use Rattle.wac_graph_causes.proofs.FirstCauses.{told_first, told_after, none_after}
use Rattle.wac_graph_causes.proofs.writable.check_types.Goals as goal

pub returns-in_err-check_outers-clause-cause : goal.returns-in_err-check_outers-clause-cause
returns-in_err-check_outers-clause-cause c =
    let p = err_from_is_err_and c.from_residual.result c.from_residual.ensures.1 in
    let g = c.args.graph.now in
    let a = c.args.asked.now in
    let o = c.args.outers.now in
    let more = option_or (defined_cause g a o) (packages_unless c.args.define_components g a) in
    rw p.1
    (λ knows alone held. told_first (outer_cause (outers_in a o)) more p.0
    (subst (TellsOuterCause a o c.args.unnamed.now) (sym p.2) c.in_err-check_outers.ensures.cause knows alone))

pub returns-in_err-check_definitions-clause-cause : goal.returns-in_err-check_definitions-clause-cause
returns-in_err-check_definitions-clause-cause c =
    let p = err_from_is_err_and c.from_residual-in_err-check_definitions.result c.from_residual-in_err-check_definitions.ensures.1 in
    let g = c.args.graph.now in
    let a = c.args.asked.now in
    let o = c.args.outers.now in
    let packages = packages_unless c.args.define_components g a in
    rw p.1
    (λ knows alone held. told_after (outer_cause (outers_in a o)) (option_or (defined_cause g a o) packages) p.0 (c.in_ok-check_outers.ensures.none knows alone)
    (told_first (defined_cause g a o) packages p.0 (subst (TellsDefinitionCause g a o c.args.unnamed.now) (sym p.2) c.in_err-check_definitions.ensures.cause knows alone held)))

pub returns-then-define_components-clause-none : goal.returns-then-define_components-clause-none
returns-then-define_components-clause-none c = λ knows alone held.
    let g = c.args.graph.now in
    let a = c.args.asked.now in
    let o = c.args.outers.now in
    none_after (outer_cause (outers_in a o)) _ (c.in_ok-check_outers.ensures.none knows alone)
    (none_after (defined_cause g a o) _ (c.in_ok-check_definitions.ensures.none knows alone held) (ap (λ d. packages_unless d g a) c.if-define_components.true))

pub returns-clause-none : goal.returns-clause-none
returns-clause-none c =
    let g = c.args.graph.now in
    let a = c.args.asked.now in
    let o = c.args.outers.now in
    on_ok_weaker c.check_packages.result
    (λ pass knows alone held.
    none_after (outer_cause (outers_in a o)) _ (c.in_ok-check_outers.ensures.none knows alone)
    (none_after (defined_cause g a o) _ (c.in_ok-check_definitions.ensures.none knows alone held) (ap (λ d. packages_unless d g a) c.if-define_components.false ∙ pass knows held)))
    c.check_packages.ensures.none

pub returns-clause-cause : goal.returns-clause-cause
returns-clause-cause c =
    let g = c.args.graph.now in
    let a = c.args.asked.now in
    let o = c.args.outers.now in
    let packages = packages_unless c.args.define_components g a in
    IfErr-weaker c.check_packages.result _ _
    (λ e told knows alone held.
    told_after (outer_cause (outers_in a o)) (option_or (defined_cause g a o) packages) e (c.in_ok-check_outers.ensures.none knows alone)
    (told_after (defined_cause g a o) packages e (c.in_ok-check_definitions.ensures.none knows alone held)
    (subst (λ q. TellsUnwritable q e) (sym (ap (λ d. packages_unless d g a) c.if-define_components.false)) (told knows held))))
    c.check_packages.ensures.cause
