use Rattle.std.proofs.Common.{◌≡◌, take}
use Rattle.wac_graph_causes.specs.Beside.{standing_uses}
use Rattle.wac_graph_causes.specs.Standing.{stands_by}
use Rattle.wac_graph_causes.proofs.beside.standing_uses.Given as goal

-- the standing uses so far
abbrev pub invariant-loop-at : goal.invariant-loop-at
invariant-loop-at l = l.all ≡ standing_uses (stands_by l.standing) l.types (take l.at l.uses)
