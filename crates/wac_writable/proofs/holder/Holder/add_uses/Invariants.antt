use Rattle.std.proofs.Common.{[], take}
use Rattle.wac_types_base.proofs.Stating.{stated_uses}
use Rattle.wac_composition.specs.Writable.{holder}
use Rattle.wac_types_parts.specs.Parts.{uses_of as uses_in}
use Rattle.wac_writable.specs.Holders.{IsFilled}
use Rattle.wac_writable.proofs.holder.Holder.add_uses.Given as goal

abbrev pub invariant-loop-at : goal.invariant-loop-at
invariant-loop-at l = IsFilled l.types l.self (holder (stated_uses l.types (take l.at (uses_in l.types l.id))) [])
