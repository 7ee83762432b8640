use Rattle.wac_merging.proofs.Taking.{asked_has_family, unnamed_has_none}
use Rattle.wac_merging.proofs.asks_have_families.Goals as goal

pub returns-clause-family : goal.returns-clause-family
returns-clause-family c = asked_has_family

pub returns-clause-unnamed : goal.returns-clause-unnamed
returns-clause-unnamed c = unnamed_has_none
