use Rattle.std.proofs.Common.{drop}
use Rattle.wac_graph_asks.proofs.FirstNames.{GetsFirst}
use Rattle.wac_graph_asks.proofs.asks.add_first_exports.Given as goal

-- a node without name gets the first of those that are left
abbrev pub invariant-loop-at : goal.invariant-loop-at
invariant-loop-at l = GetsFirst l.names.entries (drop l.at l.graph.exports) l.graph.exports
