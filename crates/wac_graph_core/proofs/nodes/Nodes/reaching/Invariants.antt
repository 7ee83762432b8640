use Rattle.wac_graph_core.specs.Defining.{DefinesReaching}
use Rattle.wac_graph_core.specs.Reaching.{IsWithout}
use Rattle.wac_graph_core.proofs.Gathering.{IsGathering}
use Rattle.wac_graph_core.proofs.nodes.Nodes.reaching.Given as goal

-- the definitions among the nodes so far that reach the type are gathered
abbrev pub invariant-loop-id : goal.invariant-loop-id
invariant-loop-id l =
    (goal.iterator-loop-id).can_next l.id-iterator
    × (goal.iterator-loop-id).is_finite l.id-iterator
    × IsGathering l.self (DefinesReaching l.types l.wanted) l.found.items l.id-iterator
    × IsWithout l.types l.wanted l.without
