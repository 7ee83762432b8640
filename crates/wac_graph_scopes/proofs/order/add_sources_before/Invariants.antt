use Rattle.std.proofs.Common.{take}
use Rattle.wac_graph_scopes.specs.UsePlaces.{AddsSources}
use Rattle.wac_graph_scopes.proofs.order.add_sources_before.Given as goal

abbrev pub invariant-loop-used : goal.invariant-loop-used
invariant-loop-used l = AddsSources l.all l.order.keys l.at (take l.used-index l.uses) l.fn.needs.items l.needs.items
