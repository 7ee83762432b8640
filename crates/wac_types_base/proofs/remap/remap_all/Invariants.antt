use Rattle.std.proofs.Common.{◌≡◌, map, take}
use Rattle.wac_types_base.proofs.remap.remap_all.Given as goal

-- the items so far
abbrev pub invariant-loop-item : goal.invariant-loop-item
invariant-loop-item g l = l.copy.items ≡ map (g.T.Remap.remapped l.copies) (take l.item-index l.items)
