use Rattle.std.proofs.Common.{◌≡◌, take}
use Rattle.wac_types_base.specs.Entries.{with_values}
use Rattle.wac_types_base.proofs.remap.NamedMapRemap.remap.Given as goal

-- the entries so far
abbrev pub invariant-loop-at : goal.invariant-loop-at
invariant-loop-at g l = l.copy ≡ with_values (g.T.Remap.remapped l.copies) (take l.at l.self)
