use Rattle.std.proofs.Common.{sym, subst}
use Rattle.std.proofs.lemmas.Result.{on_ok_weaker, IfErr-weaker, err_from_is_err_and}
use Rattle.wac_graph_causes.specs.Unwritable.{TellsUnwritable, TellsUnwritten, alias_cause}
use Rattle.wac_graph_causes.proofs.AllCauses.{aliases_told, none_unwritten, types_told}
use Rattle.wac_graph_causes.proofs.writable.check_writable.Goals as goal

pub returns-in_err-check_aliases-clause-cause : goal.returns-in_err-check_aliases-clause-cause
returns-in_err-check_aliases-clause-cause c =
    let p = err_from_is_err_and c.from_residual.result c.from_residual.ensures.1 in
    let g = c.args.graph.now in
    rw p.1 (λ h. aliases_told c.args.define_components g p.0 (subst (TellsUnwritable (alias_cause g)) (sym p.2) c.in_err-check_aliases.ensures.cause))

pub returns-in_err-unnamed-clause-cause : goal.returns-in_err-unnamed-clause-cause
returns-in_err-unnamed-clause-cause c =
    let p = err_from_is_err_and c.from_residual-in_err-unnamed.result c.from_residual-in_err-unnamed.ensures.1 in
    let g = c.args.graph.now in
    rw p.1 (λ h. subst (TellsUnwritten c.args.define_components g) (sym p.2) tt)

pub returns-clause-none : goal.returns-clause-none
returns-clause-none c =
    on_ok_weaker c.check_types.result
    (λ pass h. none_unwritten c.args.graph.now c.see_sound.ensures c.args.asked.now c.args.outers.now h c.args.define_components c.in_ok-check_aliases.ensures.none (pass c.in_ok-unnamed.ensures h.alone h.held))
    c.check_types.ensures.none

pub returns-clause-cause : goal.returns-clause-cause
returns-clause-cause c =
    IfErr-weaker c.check_types.result _ _
    (λ e told h. types_told c.args.graph.now c.see_sound.ensures c.args.asked.now c.args.outers.now h c.args.define_components e c.in_ok-check_aliases.ensures.none (told c.in_ok-unnamed.ensures h.alone h.held))
    c.check_types.ensures.cause
