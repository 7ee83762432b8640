use Rattle.std.proofs.Common.{None}
use Rattle.wac_merging.proofs.Taking.{again_is_taken}
use Rattle.wac_merging.proofs.Keeping.{with_family}
use Rattle.wac_merging.proofs.kept.kept_again.Goals as goal

pub returns-clause-keeps : goal.returns-clause-keeps
returns-clause-keeps c = λ d asks a m none t. again_is_taken d asks a c.args.before.several c.args.before.item m (with_family d asks c.args.before.several c.args.before.item c.args.before.family None none t)
