use Rattle.wac_composition.proofs.Alike.{means_alike}
use Rattle.wac_composition.proofs.order_does_not_matter.Goals as goal

pub returns : goal.returns
returns c s = λ x y. means_alike x y
