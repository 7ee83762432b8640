use Rattle.wac_nesting.proofs.OneReading.{reading_one}
use Rattle.wac_nesting.proofs.reading_is_one.Goals as goal

pub returns : goal.returns
returns c = reading_one
