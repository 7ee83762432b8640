use Rattle.std.proofs.lemmas.Bool.Decides.{not_from_Decides}
use Rattle.std.proofs.lemmas.Result.{IfOk-weaker}
use Rattle.wac_types_base.proofs.Lists.{always}
use Rattle.wac_writable.proofs.WorldLaws.{wrapped_needs, wrapped_items}
use Rattle.wac_writable.proofs.writable.wrapped_fails.Goals as goal

pub returns-then-branch : goal.returns-then-branch
returns-then-branch c ka s n = always (wrapped_needs c.args.test.types.now c.see_acyclic.ensures c.args.test.is_outer c.args.id n ((c.in_ok-wrapped_uses_fail.ensures ka).0 c.if-branch.true))

pub returns : goal.returns
returns c =
    let T = c.args.test in
    IfOk-weaker c.interface_fails.result _ _ (λ b f ka s n.
    wrapped_items T.types.now c.see_acyclic.ensures T.is_outer c.args.id n b s (not_from_Decides _ (c.in_ok-wrapped_uses_fail.ensures ka) c.if-branch.false) (f ka)) c.interface_fails.ensures
