use Rattle.std.proofs.Common.{subst}
use Rattle.wac_types_base.specs.Entries.{AreDistinct, names_of}
use Rattle.wac_types_base.proofs.PairNames.{pair_names-distinct}
use Rattle.wac_types_base.proofs.core_types.CoreImports.len.Goals as goal

pub returns-clause-distinct : goal.returns-clause-distinct
returns-clause-distinct c = subst (λ l. AreDistinct (names_of l)) c.self.view_is (pair_names-distinct c.self.inside.map.entries c.len.ensures.unique)
