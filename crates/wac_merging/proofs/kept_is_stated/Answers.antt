use Rattle.wac_merging.proofs.Merged.{kept_is_stated, refused_is_stated}
use Rattle.wac_merging.proofs.kept_is_stated.Goals as goal

pub returns-clause-kept : goal.returns-clause-kept
returns-clause-kept c = kept_is_stated

pub returns-clause-refused : goal.returns-clause-refused
returns-clause-refused c = refused_is_stated
