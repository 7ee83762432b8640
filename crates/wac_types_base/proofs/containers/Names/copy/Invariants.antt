use Rattle.std.proofs.Common.{◌≡◌, take}
use Rattle.wac_types_base.proofs.containers.Names.copy.Given as goal

-- the names so far
abbrev pub invariant-loop-at : goal.invariant-loop-at
invariant-loop-at l = l.copy ≡ take l.at l.self
