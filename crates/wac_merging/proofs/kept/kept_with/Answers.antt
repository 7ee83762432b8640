use Rattle.std.proofs.Common.{None}
use Rattle.wac_merging.proofs.Taking.{one_family_is_all}
use Rattle.wac_merging.proofs.Keeping.{with_family}
use Rattle.wac_merging.proofs.kept.kept_with.Goals as goal

pub returns-clause-keeps : goal.returns-clause-keeps
returns-clause-keeps c = λ d asks n none m o t. one_family_is_all d asks c.args.before.several n c.args.before.item c.args.family m o (with_family d asks c.args.before.several c.args.before.item c.args.before.family None none t)
