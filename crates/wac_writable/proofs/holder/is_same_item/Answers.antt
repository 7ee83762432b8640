use Rattle.std.proofs.Common.{refl}
use Rattle.std.proofs.lemmas.Result.{IfOk-weaker}
use Rattle.wac_writable.proofs.ItemLaws.{same_itself, no_fit, back_fits}
use Rattle.wac_writable.proofs.holder.is_same_item.Goals as goal

pub returns-then-is_same : goal.returns-then-is_same
returns-then-is_same c s t = same_itself c.args.types.now c.args.a c.args.b (c.if-is_same.ensures.0 refl)

pub returns-then-not-branch : goal.returns-then-not-branch
returns-then-not-branch c s t = no_fit c.args.types.now c.args.a c.args.b c.in_ok-fits.field-0 c.if-not-branch.true (c.in_ok-fits.ensures s t)

pub returns : goal.returns
returns c = IfOk-weaker c.fits-2.result _ _ (λ y d s t. back_fits c.args.types.now c.args.a c.args.b c.in_ok-fits.field-0 y c.if-not-branch.false (c.in_ok-fits.ensures s t) (d t s)) c.fits-2.ensures
