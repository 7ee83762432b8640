use Rattle.std.proofs.Common.{subst}
use Rattle.wac_graph_core.specs.TypeSets.{AddsType}
use Rattle.wac_graph_core.proofs.TypeSets.{among_added}
use Rattle.wac_graph_core.proofs.type_set.TypeSet.insert.Goals as goal

pub returns : goal.returns
returns c = subst (λ l. AddsType l c.insert.new.self.keys c.args.ty) c.self.view_is (among_added c.args.ty c.self.inside.set.keys c.insert.new.self.keys c.in_ok-insert.ensures.updates.0)
