use Rattle.std.proofs.Common.{◌≡◌, Some}
use Rattle.wac_graph_core.proofs.Gathering.{IsGathering}
use Rattle.wac_graph_core.proofs.nodes.Nodes.instances.Given as goal

-- the instances among the nodes so far are gathered
abbrev pub invariant-loop-id : goal.invariant-loop-id
invariant-loop-id l =
    (goal.iterator-loop-id).can_next l.id-iterator
    × (goal.iterator-loop-id).is_finite l.id-iterator
    × IsGathering l.self (λ x. x.of ≡ Some l.of) l.found.items l.id-iterator
