use Rattle.wac_merging.proofs.Repeated.{repeated_conflicts_no_more, repeated_is_told}
use Rattle.wac_merging.proofs.repeated_asks_conflict_no_more.Goals as goal

pub returns-clause-conflict : goal.returns-clause-conflict
returns-clause-conflict c s = repeated_conflicts_no_more

pub returns-clause-told : goal.returns-clause-told
returns-clause-told c s = repeated_is_told
