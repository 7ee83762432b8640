use Rattle.wac_merging.proofs.Merged.{merged_is_stated, clash_is_stated, narrower_is_stated, outside_is_stated}
use Rattle.wac_merging.proofs.merging_is_stated.Goals as goal

pub returns-clause-merged : goal.returns-clause-merged
returns-clause-merged c = merged_is_stated

pub returns-clause-clash : goal.returns-clause-clash
returns-clause-clash c = clash_is_stated

pub returns-clause-narrower : goal.returns-clause-narrower
returns-clause-narrower c = narrower_is_stated

pub returns-clause-outside : goal.returns-clause-outside
returns-clause-outside c = outside_is_stated
