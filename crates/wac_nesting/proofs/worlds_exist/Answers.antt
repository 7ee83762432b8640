use Rattle.wac_nesting.proofs.OneWorld.{worlds_exist}
use Rattle.wac_nesting.proofs.worlds_exist.Goals as goal

pub returns : goal.returns
returns c = worlds_exist
