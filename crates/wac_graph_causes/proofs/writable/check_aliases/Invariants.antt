use Rattle.std.proofs.Common.{◌≡◌}
use Rattle.std.specs.FinMap as finite
use Rattle.wac_graph_causes.specs.Unwritable.{first_alias_cause}
use Rattle.wac_graph_causes.proofs.writable.check_aliases.Given as goal

-- no node so far is an alias of a value item
abbrev pub invariant-loop-node : goal.invariant-loop-node
invariant-loop-node l =
    (goal.iterator-loop-node).can_next l.node-iterator ×
    (goal.iterator-loop-node).is_finite l.node-iterator ×
    (first_alias_cause l.graph l.node-iterator ≡ first_alias_cause l.graph (finite.keys l.graph.nodes))
