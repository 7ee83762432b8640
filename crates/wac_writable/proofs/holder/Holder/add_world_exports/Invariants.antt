use Rattle.std.proofs.Common.{take}
use Rattle.wac_types_base.specs.Entries.{with_values}
use Rattle.wac_types_base.specs.Stated.{stated_of}
use Rattle.wac_types_parts.specs.Parts.{world_exports_of as world_exports_in}
use Rattle.wac_writable.specs.Holders.{AddsRoots}
use Rattle.wac_writable.proofs.holder.Holder.add_world_exports.Given as goal

abbrev pub invariant-loop-at : goal.invariant-loop-at
invariant-loop-at l = AddsRoots l.types l.fn.self (with_values (stated_of l.types) (take l.at (world_exports_in l.types l.id))) l.self
