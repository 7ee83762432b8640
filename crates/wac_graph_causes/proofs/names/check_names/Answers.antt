use Rattle.std.proofs.Common.{sym, subst}
use Rattle.std.proofs.lemmas.Result.{on_ok_weaker, IfErr-weaker, err_from_is_err_and}
use Rattle.wac_graph_causes.specs.Alike.{AreHeld, IsAlike}
use Rattle.wac_graph_causes.proofs.Alike.{none_alike, imports_told, exports_told}
use Rattle.wac_graph_causes.proofs.names.check_names.Goals as goal

pub returns-in_err-check_import_names-clause-cause : goal.returns-in_err-check_import_names-clause-cause
returns-in_err-check_import_names-clause-cause c =
    let p = err_from_is_err_and c.from_residual.result c.from_residual.ensures.1 in
    let g = c.args.graph.now in
    rw p.1
    (subst (λ e. AreHeld g c.args.asked.now c.args.outers.now → IsAlike c.args.define c.args.validate g e) (sym p.2)
    (imports_told g c.see_sound.ensures c.args.asked.now c.args.outers.now c.args.define c.args.validate c.in_err-check_import_names.field-0.0 c.in_err-check_import_names.ensures.cause))

pub returns-clause-none : goal.returns-clause-none
returns-clause-none c =
    on_ok_weaker c.check_export_names.result (λ none. none_alike c.args.graph.now c.see_sound.ensures c.args.asked.now c.args.outers.now c.args.define c.args.validate c.in_ok-check_import_names.ensures.none none)
    c.check_export_names.ensures.none

pub returns-clause-cause : goal.returns-clause-cause
returns-clause-cause c =
    IfErr-weaker c.check_export_names.result _ _
    (λ e told. exports_told c.args.graph.now c.see_sound.ensures c.args.asked.now c.args.outers.now c.args.define c.args.validate e c.in_ok-check_import_names.ensures.none told) c.check_export_names.ensures.cause
