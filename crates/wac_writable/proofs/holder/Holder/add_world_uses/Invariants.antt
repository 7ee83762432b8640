use Rattle.std.proofs.Common.{[], take}
use Rattle.wac_types_base.proofs.Stating.{stated_uses}
use Rattle.wac_composition.specs.Writable.{holder}
use Rattle.wac_types_parts.specs.Parts.{world_uses_of as world_uses_in}
use Rattle.wac_writable.specs.Holders.{IsFilled}
use Rattle.wac_writable.proofs.holder.Holder.add_world_uses.Given as goal

abbrev pub invariant-loop-at : goal.invariant-loop-at
invariant-loop-at l = IsFilled l.types l.self (holder (stated_uses l.types (take l.at (world_uses_in l.types l.id))) [])
