use Rattle.std.proofs.Common.{◌∙◌}
use Rattle.wac_types_base.specs.Remembering.{HasCopied}
use Rattle.wac_types_base.proofs.Copying.{AreCopies-none}
use Rattle.wac_types_base.proofs.copy.Copier.new.Goals as goal

pub returns : goal.returns
unfolding HasCopied
returns c from = AreCopies-none from c.args.to.now c.new.result (c.new.ensures.number ∙ c.number.ensures) c.new.ensures.none
