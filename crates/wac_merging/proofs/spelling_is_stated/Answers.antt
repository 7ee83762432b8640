use Rattle.wac_merging.proofs.Merged.{spelled_is_stated}
use Rattle.wac_merging.proofs.spelling_is_stated.Goals as goal

pub returns : goal.returns
returns c = spelled_is_stated
