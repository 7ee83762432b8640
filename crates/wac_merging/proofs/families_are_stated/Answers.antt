use Rattle.wac_merging.proofs.Families.{family_is_stated, unnamed_is_of_none}
use Rattle.wac_merging.proofs.families_are_stated.Goals as goal

pub returns-clause-family : goal.returns-clause-family
returns-clause-family c = family_is_stated

pub returns-clause-unnamed : goal.returns-clause-unnamed
returns-clause-unnamed c = unnamed_is_of_none
