use Rattle.std.proofs.Common.{◌≡◌, ◌+◌, ◌*◌, drop}
use Rattle.std.specs.List.{list_any}
use Rattle.wac_types_base.specs.declared.item.ItemKind.{ItemKind}
use Rattle.wac_types_base.specs.Collection.{size_of}
use Rattle.wac_types_parts.specs.Parts.{uses_of as uses_in}
use Rattle.wac_writable.specs.Unnamed.{Learns, uses_unnamed}
use Rattle.wac_writable.proofs.UnnamedLaws.{unnamed_use}
use Rattle.wac_writable.proofs.unnamed.Unnamed.+unnamed.Given as goal

abbrev pub decreases-is_unnamed : goal.decreases-is_unnamed
decreases-is_unnamed l = 3 * size_of l.types.now (ItemKind.Instance l.id) + 2

abbrev pub decreases-is_used_by : goal.decreases-is_used_by
decreases-is_used_by l = 3 * size_of l.types.now (ItemKind.Instance l.id) + 1

abbrev pub decreases-is_used_directly : goal.decreases-is_used_directly
decreases-is_used_directly l = 3 * size_of l.types.now (ItemKind.Instance l.id)

-- the uses that are left decide
abbrev pub invariant-is_used_directly-loop-at : goal.invariant-is_used_directly-loop-at
invariant-is_used_directly-loop-at l = Learns l.types l.fn.self l.self × (uses_unnamed l.types l.id ≡ list_any (unnamed_use l.types) (drop l.at (uses_in l.types l.id)))
