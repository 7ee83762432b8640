use Rattle.std.proofs.Common.{take}
use Rattle.wac_workspace.specs.Packages.{HasHanded}
use Rattle.wac_workspace.proofs.entries.holds_handed.Given as goal

abbrev pub invariant-loop-entry : goal.invariant-loop-entry
invariant-loop-entry l = HasHanded (take l.entry-index l.entries) l.bytes → ⊥
