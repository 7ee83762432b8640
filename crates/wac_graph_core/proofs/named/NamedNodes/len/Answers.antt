use Rattle.std.proofs.Common.{subst}
use Rattle.wac_types_base.specs.Entries.{AreDistinct, names_of}
use Rattle.wac_types_base.proofs.Looked.{names-distinct}
use Rattle.wac_graph_core.specs.Named.{Named}
use Rattle.wac_graph_core.proofs.named.NamedNodes.len.Goals as goal

pub returns-clause-distinct : goal.returns-clause-distinct
returns-clause-distinct c = subst (λ (v : Named). AreDistinct (names_of v.items)) c.self.view_is (names-distinct c.self.inside.map.entries c.len.ensures.unique)
