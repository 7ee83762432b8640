use Rattle.std.proofs.Common.{◌≡◌, take}
use Rattle.wac_graph_core.proofs.standing.same_uses.Given as goal

-- the entries so far are the same
abbrev pub invariant-loop-at : goal.invariant-loop-at
invariant-loop-at l = take l.at l.a ≡ take l.at l.b
