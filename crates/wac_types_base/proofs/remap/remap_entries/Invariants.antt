use Rattle.std.proofs.Common.{◌≡◌, ◌++◌, map}
use Rattle.wac_types_base.proofs.remap.remap_entries.Given as goal

-- what is copied, and what is left
abbrev pub invariant-loop-entry : goal.invariant-loop-entry
invariant-loop-entry g l = l.copy.given ++ map (g.T.Remap.remapped l.copies) l.entry-iterator ≡ map (g.T.Remap.remapped l.copies) l.entries.given
