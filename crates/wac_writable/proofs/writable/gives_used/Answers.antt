use Rattle.std.proofs.Common.{sym, ◌∙◌}
use Rattle.std.proofs.lemmas.Result.{IfOk-weaker}
use Rattle.wac_writable.proofs.GivenLaws.{takes_nothing, gives_nothing, gives_by}
use Rattle.wac_writable.proofs.writable.gives_used.Goals as goal

pub returns-in_default : goal.returns-in_default
returns-in_default c s = takes_nothing c.args.test.types.now c.see_acyclic.ensures c.args.used c.args.import c.in_default.ensures.value

pub returns-in_default-instance_of : goal.returns-in_default-instance_of
returns-in_default-instance_of c s =
    gives_nothing c.args.test.types.now c.see_acyclic.ensures c.args.used c.args.import c.in-Some.item c.in-Some.ensures.value c.in_default-instance_of.ensures

pub returns : goal.returns
returns c =
    let C = c.args.test.types.now in
    IfOk-weaker c.stands_for.result _ _ (λ b f s. f
    ∙ sym (gives_by C c.see_acyclic.ensures c.args.used c.args.import c.in-Some.item c.in-Some-instance_of.id c.export_named-2.result c.in-Some.ensures.value c.in-Some-instance_of.ensures s c.export_named-2.ensures.value)) c.stands_for.ensures
