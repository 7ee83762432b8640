use Rattle.std.proofs.Common.{subst, inl, inr}
use Rattle.std.proofs.lemmas.Result.{err_from_is_err_and, on_ok_weaker}
use Rattle.wac_graph_scopes.proofs.RefusedLaws.{if_err_map}
use Rattle.wac_graph_scopes.specs.Imports.{MayDescribeIn}
use Rattle.wac_graph_scopes.proofs.PreparedLaws.{keeps_both}
use Rattle.wac_graph_scopes.proofs.imports.ImportScope.describe_plainly.Goals as goal

pub returns-in-Some-clause-describes : goal.returns-in-Some-clause-describes
returns-in-Some-clause-describes c w outer i imported exported h =
    subst (MayDescribeIn w c.args.all.types.now outer c.args.all.world i c.args.import.name.now c.args.import.kind c.describe_used.new.self imported exported) c.in-Some.is (c.in_ok-used.ensures.describes w outer i imported exported h)

pub returns-in-None-clause-describes : goal.returns-in-None-clause-describes
returns-in-None-clause-describes c w outer i imported exported h =
    c.describe_fresh.ensures.describes w outer i imported exported
    (subst (MayDescribeIn w c.args.all.types.now outer c.args.all.world i c.args.import.name.now c.args.import.kind c.describe_used.new.self imported exported) c.in-None.is (c.in_ok-used.ensures.describes w outer i imported exported h))

pub returns-in_err-used-clause-refused : goal.returns-in_err-used-clause-refused
returns-in_err-used-clause-refused c =
    let p = err_from_is_err_and c.from_residual.result c.from_residual.ensures.1 in
    rw (p.1, p.2) (λ un. inl (c.in_err-used.ensures.refused un))

pub returns-in-None-clause-refused : goal.returns-in-None-clause-refused
returns-in-None-clause-refused c = if_err_map c.describe_fresh.result (λ e h un. inr (h un)) c.describe_fresh.ensures.refused

pub returns-in-None-clause-kept : goal.returns-in-None-clause-kept
returns-in-None-clause-kept c =
    on_ok_weaker c.describe_fresh.result (λ f. keeps_both c.args.all c.args.self.now c.describe_used.new.self c.describe_fresh.new.self c.in_ok-used.ensures.kept f) c.describe_fresh.ensures.kept
