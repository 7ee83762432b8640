use Rattle.wac_composition.proofs.Against.{causes_stand}
use Rattle.wac_composition.proofs.causes_stand.Goals as goal

pub returns : goal.returns
returns c s = λ define c. causes_stand define c
