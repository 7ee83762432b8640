use Rattle.wac_merging.proofs.Conflicts.{kept_have_no_conflict, refused_is_conflict, refused_is_told}
use Rattle.wac_merging.proofs.conflicts_are_labelled.Goals as goal

pub returns-clause-none : goal.returns-clause-none
returns-clause-none c s = kept_have_no_conflict

pub returns-clause-first : goal.returns-clause-first
returns-clause-first c s = refused_is_conflict

pub returns-clause-told : goal.returns-clause-told
returns-clause-told c s = refused_is_told
