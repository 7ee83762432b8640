use Rattle.wac_merging.proofs.Taking.{first_is_taken}
use Rattle.wac_merging.proofs.kept.kept_first.Goals as goal

pub returns-clause-keeps : goal.returns-clause-keeps
returns-clause-keeps c = λ d n s w. first_is_taken d n c.args.item s w
