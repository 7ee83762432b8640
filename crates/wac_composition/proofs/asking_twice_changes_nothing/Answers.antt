use Rattle.wac_composition.proofs.Again.{asking_twice}
use Rattle.wac_composition.proofs.AskedAgain.{asked_again}
use Rattle.wac_composition.proofs.OutersAgain.{outers_again}
use Rattle.wac_composition.proofs.asking_twice_changes_nothing.Goals as goal

pub returns-clause-kept : goal.returns-clause-kept
returns-clause-kept c s = asking_twice

pub returns-clause-classes : goal.returns-clause-classes
returns-clause-classes c s = asked_again

pub returns-clause-outers : goal.returns-clause-outers
returns-clause-outers c s = outers_again
