use Rattle.std.proofs.Common.{[]}
use Rattle.std.proofs.lemmas.Result.{IfOk-weaker}
use Rattle.wac_composition.specs.Writable.{holder}
use Rattle.wac_writable.proofs.writable.is_unwritable_alone.Goals as goal

pub returns : goal.returns
returns c = IfOk-weaker c.item_fails.result _ _ (λ b f ka s. f ka s (holder [] []) (c.empty-holder.ensures c.args.test.types.now)) c.item_fails.ensures.fails
