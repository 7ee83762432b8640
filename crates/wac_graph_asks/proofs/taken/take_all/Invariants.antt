use Rattle.wac_graph_asks.proofs.TakingAll.{SoFar}
use Rattle.wac_graph_asks.proofs.taken.take_all.Given as goal

-- the asks so far are taken
abbrev pub invariant-loop-at : goal.invariant-loop-at
invariant-loop-at l = SoFar l.fn.types l.asks l.labels l.at l.types l.taken.entries
