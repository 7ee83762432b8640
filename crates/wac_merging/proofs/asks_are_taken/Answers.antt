use Rattle.wac_merging.proofs.Taking.{first_is_taken, again_is_taken, one_family_is_all, next_is_taken, refused_keeps_nothing, taken_stays}
use Rattle.wac_merging.proofs.asks_are_taken.Goals as goal

pub returns-clause-first : goal.returns-clause-first
returns-clause-first c = first_is_taken

pub returns-clause-again : goal.returns-clause-again
returns-clause-again c = again_is_taken

pub returns-clause-family : goal.returns-clause-family
returns-clause-family c = one_family_is_all

pub returns-clause-next : goal.returns-clause-next
returns-clause-next c = next_is_taken

pub returns-clause-refused : goal.returns-clause-refused
returns-clause-refused c = refused_keeps_nothing

pub returns-clause-stays : goal.returns-clause-stays
returns-clause-stays c = taken_stays
