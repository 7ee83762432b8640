use Rattle.std.proofs.Common.{refl, inl, inr}
use Rattle.std.proofs.lemmas.Result.{err_from_is_err_and}
use Rattle.wac_graph_scopes.proofs.CoreRefusals.{never_table}
use Rattle.wac_graph_scopes.proofs.core_items.table_of.Goals as goal

pub returns-then-shared-clause-refused : goal.returns-then-shared-clause-refused
returns-then-shared-clause-refused c = (refl, never_table c.args.element c.args.limits.minimum c.args.limits.maximum c.args.limits.wide c.args.shared (inl c.if-shared.true))

pub returns-in_err-reference-clause-refused : goal.returns-in_err-reference-clause-refused
returns-in_err-reference-clause-refused c =
    let p = err_from_is_err_and c.from_residual.result c.from_residual.ensures.1 in
    let r = c.in_err-reference.ensures.refused in
    rw (p.1, p.2) (r.0, never_table c.args.element c.args.limits.minimum c.args.limits.maximum c.args.limits.wide c.args.shared (inr r.1))
