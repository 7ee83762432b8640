use Rattle.wac_merging.proofs.Labels.{outers_differ}
use Rattle.wac_merging.proofs.Outers.{spelled_is_outer, outers_are_stated}
use Rattle.wac_merging.proofs.outer_imports_are_kept.Goals as goal

pub returns-clause-spelled : goal.returns-clause-spelled
returns-clause-spelled c s = spelled_is_outer

pub returns-clause-outers : goal.returns-clause-outers
returns-clause-outers c s = outers_are_stated

pub returns-clause-differ : goal.returns-clause-differ
returns-clause-differ c s = outers_differ
