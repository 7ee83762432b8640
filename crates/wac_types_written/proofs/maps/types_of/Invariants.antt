use Rattle.std.proofs.Common.{◌≡◌, take}
use Rattle.wac_types_written.specs.Forms.{type_items}
use Rattle.wac_types_written.proofs.maps.types_of.Given as goal

-- the types so far
abbrev pub invariant-loop-at : goal.invariant-loop-at
invariant-loop-at l = l.types ≡ type_items (take l.at l.items)
