use Rattle.wac_graph_core.proofs.EdgeOps.{AreCopies}
use Rattle.wac_graph_core.proofs.edges.Edges.copy.Given as goal

abbrev pub invariant-loop-own : goal.invariant-loop-own
invariant-loop-own l = AreCopies l.own-items l.ties.items l.own-index
