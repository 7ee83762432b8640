use Rattle.wac_types_names.specs.Tracks.{AreCompatible}
use Rattle.wac_types_merge.proofs.Families.{AllBefore}
use Rattle.wac_types_merge.proofs.imports.place_on.Given as goal

-- no import so far is on the name's track
abbrev pub invariant-loop-at : goal.invariant-loop-at
invariant-loop-at l = AllBefore l.imports (λ m. AreCompatible m.name l.name → ⊥) l.at
