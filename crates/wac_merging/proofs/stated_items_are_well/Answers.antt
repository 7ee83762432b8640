use Rattle.wac_merging.proofs.Well.{stated_are_well}
use Rattle.wac_merging.proofs.stated_items_are_well.Goals as goal

pub returns : goal.returns
returns c = stated_are_well
