use Rattle.wac_nesting.proofs.Parts.{replaces}
use Rattle.wac_nesting.proofs.substitution_replaces.Goals as goal

pub returns : goal.returns
returns c = replaces
