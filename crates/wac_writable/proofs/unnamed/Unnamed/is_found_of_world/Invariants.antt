use Rattle.std.proofs.Common.{◌≡◌, drop}
use Rattle.std.specs.List.{list_any}
use Rattle.wac_types_parts.specs.Parts.{world_uses_of as world_uses_in}
use Rattle.wac_writable.specs.Unnamed.{KnowsAll, world_uses_unnamed}
use Rattle.wac_writable.proofs.UnnamedLaws.{unnamed_use}
use Rattle.wac_writable.proofs.unnamed.Unnamed.is_found_of_world.Given as goal

-- the uses that are left decide
abbrev pub invariant-loop-at : goal.invariant-loop-at
invariant-loop-at l = KnowsAll l.types l.self → world_uses_unnamed l.types l.id ≡ list_any (unnamed_use l.types) (drop l.at (world_uses_in l.types l.id))
