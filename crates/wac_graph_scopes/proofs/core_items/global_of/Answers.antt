use Rattle.std.proofs.Common.{refl, inl, inr}
use Rattle.std.proofs.lemmas.Result.{err_from_is_err_and}
use Rattle.wac_graph_scopes.proofs.CoreRefusals.{never_global}
use Rattle.wac_graph_scopes.proofs.core_items.global_of.Goals as goal

pub returns-then-shared-clause-refused : goal.returns-then-shared-clause-refused
returns-then-shared-clause-refused c = (refl, never_global c.args.ty c.args.mutable c.args.shared (inl c.if-shared.true))

pub returns-in_err-value-clause-refused : goal.returns-in_err-value-clause-refused
returns-in_err-value-clause-refused c =
    let p = err_from_is_err_and c.from_residual.result c.from_residual.ensures.1 in
    let r = c.in_err-value.ensures.refused in
    rw (p.1, p.2) (r.0, never_global c.args.ty c.args.mutable c.args.shared (inr r.1))
