use Rattle.std.proofs.Common.{refl, arith}
use Rattle.wac_types_fit.proofs.ValueTrees.{same_lengths}
use Rattle.wac_types_fit.proofs.same_core.same_lists.Goals as goal

pub returns : goal.returns
returns c = (λ t. same_lengths c.args.a.now c.args.b.now c.loop-at.at (omega arith) (omega arith) c.loop-at.invariant, λ e. refl)
