use Rattle.std.proofs.Common.{sym}
use Rattle.wac_graph_scopes.proofs.scope.TypeScope.resource.Goals as goal

pub returns-in-Some-clause-reads : goal.returns-in-Some-clause-reads
returns-in-Some-clause-reads c w cc outer i h = (h.resources c.args.name.now c.in-Some.index.now (sym c.in-Some.ensures)).reads
