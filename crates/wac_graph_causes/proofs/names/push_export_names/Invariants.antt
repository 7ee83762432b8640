use Rattle.std.proofs.Common.{◌≡◌, ◌++◌, take}
use Rattle.wac_types_base.specs.Entries.{names_of}
use Rattle.wac_graph_causes.proofs.names.push_export_names.Given as goal

abbrev pub invariant-loop-at : goal.invariant-loop-at
invariant-loop-at l = l.names.items ≡ l.initial.names.items ++ names_of (take l.at l.graph.exports)
