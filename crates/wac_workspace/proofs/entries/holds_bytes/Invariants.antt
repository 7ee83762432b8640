use Rattle.std.proofs.Common.{take}
use Rattle.wac_workspace.specs.Packages.{HasBytes}
use Rattle.wac_workspace.proofs.entries.holds_bytes.Given as goal

abbrev pub invariant-loop-entry : goal.invariant-loop-entry
invariant-loop-entry l = HasBytes (take l.entry-index l.entries) l.bytes → ⊥
