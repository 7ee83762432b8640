use Rattle.wac_merging.proofs.Taking.{kept_is_identified, spelled_is_identified}
use Rattle.wac_merging.proofs.outer_imports_are_identified.Goals as goal

pub returns-clause-kept : goal.returns-clause-kept
returns-clause-kept c = kept_is_identified

pub returns-clause-spelled : goal.returns-clause-spelled
returns-clause-spelled c = spelled_is_identified
