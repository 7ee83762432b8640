use Rattle.std.proofs.Common.{◌≡◌, ◌++◌, take}
use Rattle.wac_graph_causes.specs.Alike.{outer_names}
use Rattle.wac_graph_causes.proofs.names.push_outer_names.Given as goal

abbrev pub invariant-loop-at : goal.invariant-loop-at
invariant-loop-at l = l.names.items ≡ l.initial.names.items ++ take l.at (outer_names l.asked l.outers)
