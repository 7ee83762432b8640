use Rattle.wac_types_fit.proofs.Items.{disagree_no}
use Rattle.wac_types_fit.proofs.laws.refusals_are_true.Goals as goal

pub returns : goal.returns
returns c = disagree_no
