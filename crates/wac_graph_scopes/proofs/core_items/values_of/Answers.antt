use Rattle.std.proofs.Common.{get_or}
use Rattle.std.proofs.lemmas.Option.{slice_get-get_or}
use Rattle.std.proofs.lemmas.Result.{err_from_is_err_and}
use Rattle.wac_types_base.specs.declared.core_types.CoreType.{CoreType}
use Rattle.wac_types_base.proofs.Looked.{among-get}
use Rattle.wac_graph_scopes.proofs.core_items.values_of.Goals as goal

pub returns-in_err-value_of-clause-refused : goal.returns-in_err-value_of-clause-refused
returns-in_err-value_of-clause-refused c =
    let p = err_from_is_err_and c.from_residual.result c.from_residual.ensures.1 in
    let r = c.in_err-value_of.ensures.refused in
    let ts = c.args.types.now in
    let i = c.loop-ty.ty-index in
    let t = get_or ts i CoreType.I32 in
    rw (p.1, p.2, r.0) (t, among-get ts i t (slice_get-get_or ts i CoreType.I32 c.loop-ty-test.true), r.1)
