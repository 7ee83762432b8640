use Rattle.wac_composition.proofs.Bound.{wired}
use Rattle.wac_composition.proofs.compositions_are_wired.Goals as goal

pub returns : goal.returns
returns c s = λ tag_of c s met. wired tag_of c met s
