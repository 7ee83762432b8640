use Rattle.std.proofs.Common.{take}
use Rattle.wac_workspace.proofs.Handing.{AreLent}
use Rattle.wac_workspace.proofs.entries.packages_of.Given as goal

abbrev pub invariant-loop-entry : goal.invariant-loop-entry
invariant-loop-entry l = AreLent l.«packages».entries (take l.entry-index l.entries)
