use Rattle.wac_composition.proofs.KeptFits.{kept_meets, outer_fits}
use Rattle.wac_composition.proofs.Clashing.{none_kept}
use Rattle.wac_composition.proofs.OuterClasses.{asks_are_met, outers_are_apart}
use Rattle.wac_composition.proofs.Merged.{all_met, merged_met}
use Rattle.wac_composition.proofs.outer_imports_fit.Goals as goal

pub returns-clause-kept : goal.returns-clause-kept
returns-clause-kept c s = kept_meets

pub returns-clause-none : goal.returns-clause-none
returns-clause-none c s = none_kept

pub returns-clause-outer : goal.returns-clause-outer
returns-clause-outer c s = λ asks n x e a m. outer_fits asks n x e a m

pub returns-clause-met : goal.returns-clause-met
returns-clause-met c s = λ asks a n x m e. asks_are_met asks a n x m e

pub returns-clause-apart : goal.returns-clause-apart
returns-clause-apart c s = outers_are_apart

pub returns-clause-merged : goal.returns-clause-merged
returns-clause-merged c s = merged_met

pub returns-clause-accepted : goal.returns-clause-accepted
returns-clause-accepted c s = all_met
