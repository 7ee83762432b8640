use Rattle.wac_composition.proofs.Renamed.{keeps_meaning}
use Rattle.wac_composition.proofs.names_do_not_matter.Goals as goal

pub returns : goal.returns
returns c s = λ f g x. keeps_meaning f g x
