use Rattle.std.proofs.Common.{subst}
use Rattle.wac_types_base.specs.Entries.{AreDistinct}
use Rattle.wac_types_base.proofs.Looked.{texts-distinct}
use Rattle.wac_types_base.proofs.containers.Names.len.Goals as goal

pub returns-clause-distinct : goal.returns-clause-distinct
returns-clause-distinct c = subst AreDistinct c.self.view_is (texts-distinct c.self.inside.set.keys c.len.ensures.unique)
