use Rattle.std.proofs.Common.{subst}
use Rattle.wac_types_base.specs.Entries.{AreDistinct, names_of}
use Rattle.wac_types_base.proofs.Looked.{names-distinct}
use Rattle.wac_types_base.proofs.containers.NamedMap.len.Goals as goal

pub returns-clause-distinct : goal.returns-clause-distinct
returns-clause-distinct g c = subst (λ l. AreDistinct (names_of l)) c.self.view_is (names-distinct c.self.inside.map.entries c.len.ensures.unique)
