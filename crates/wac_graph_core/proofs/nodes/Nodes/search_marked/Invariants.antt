use Rattle.wac_graph_core.specs.Defining.{DefinesMarked}
use Rattle.wac_graph_core.proofs.Gathering.{IsGathering}
use Rattle.wac_graph_core.proofs.nodes.Nodes.search_marked.Given as goal

-- the definitions of marked types among the nodes so far are gathered
abbrev pub invariant-loop-id : goal.invariant-loop-id
invariant-loop-id l =
    (goal.iterator-loop-id).can_next l.id-iterator
    × (goal.iterator-loop-id).is_finite l.id-iterator
    × IsGathering l.self (DefinesMarked l.marks) l.found.items l.id-iterator
