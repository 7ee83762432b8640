use Rattle.wac_graph_asks.proofs.Arguments.{Puts}
use Rattle.wac_graph_asks.proofs.nodes.add_arguments.Given as goal

-- so much is put, and the others are left
abbrev pub invariant-loop-name : goal.invariant-loop-name
invariant-loop-name l =
    (goal.iterator-loop-name).can_next l.name-iterator ×
    (goal.iterator-loop-name).is_finite l.name-iterator ×
    Puts l.graph l.fn.id l.name-iterator l.by_name
