use Rattle.std.proofs.Common.{◌≡◌, take}
use Rattle.wac_types_base.specs.Entries.{with_values}
use Rattle.wac_types_base.specs.Renaming.{kind_under}
use Rattle.wac_types_names.proofs.copies.items_under.Given as goal

-- the entries so far
abbrev pub invariant-loop-at : goal.invariant-loop-at
invariant-loop-at l = l.copy ≡ with_values (kind_under l.number) (take l.at l.items)
