use Rattle.std.proofs.Common.{ℕ, ◌<◌, ◌≤◌}
use Rattle.wac_graph_plug.specs.Lookups.{IsNear}
use Rattle.wac_graph_plug.proofs.matching.next_near.Given as goal

-- no place so far is near
abbrev pub invariant-loop-at : goal.invariant-loop-at
invariant-loop-at l = (j : ℕ) → l.low ≤ j → j < l.at → IsNear l.imports l.name j → ⊥
