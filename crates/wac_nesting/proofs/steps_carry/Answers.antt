use Rattle.wac_nesting.proofs.Carry.{carries}
use Rattle.wac_nesting.proofs.steps_carry.Goals as goal

pub returns : goal.returns
returns c = carries
