use Rattle.std.proofs.Common.{subst}
use Rattle.wac_types_base.specs.Graph.{Among}
use Rattle.wac_types_base.proofs.Used.{among_at}
use Rattle.wac_graph_scopes.proofs.scope.TypeScope.known_at.Goals as goal

pub returns-in-Some-clause-reads : goal.returns-in-Some-clause-reads
returns-in-Some-clause-reads c w types outer i h =
    h.known.each c.in-Some.known.now (subst (Among c.in-Some.known.now) c.deref.ensures.value (among_at c.deref.result.now c.args.at c.in-Some.known.now c.in-Some.ensures.lookup.3.0 c.in-Some.ensures.lookup.1))
