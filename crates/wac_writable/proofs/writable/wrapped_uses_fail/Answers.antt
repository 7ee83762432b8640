use Rattle.std.proofs.Common.{subst}
use Rattle.std.specs.Bool.{Decides}
use Rattle.std.proofs.lemmas.Result.{IfOk-weaker}
use Rattle.wac_writable.specs.Uses.{NeededBy}
use Rattle.wac_writable.specs.Givers.{givers_by, instance_of}
use Rattle.wac_writable.proofs.GiverLaws.{knows_none}
use Rattle.wac_writable.proofs.writable.wrapped_uses_fail.Goals as goal

pub returns : goal.returns
returns c =
    let T = c.args.test in
    IfOk-weaker c.uses_fail.result _ _ (λ b f ka.
    subst (λ w. Decides b (NeededBy T.is_outer (givers_by T.types.now w) (instance_of T.types.now c.args.id))) c.new-giver.ensures.given_by
    (f ka (knows_none T _ c.new-giver.result c.new-giver.ensures.seen c.new-giver.ensures.fine)).0) c.uses_fail.ensures
