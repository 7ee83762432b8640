use Rattle.std.proofs.Common.{take}
use Rattle.std.specs.Option.{option_copied, option_map}
use Rattle.semver.specs.Identifiers.{parts_of}
use Rattle.wac_workspace.specs.Packages.{HasKey}
use Rattle.wac_workspace.proofs.entries.find.Given as goal

abbrev pub invariant-loop-entry : goal.invariant-loop-entry
invariant-loop-entry l = HasKey (take l.entry-index l.entries) (l.name, option_map parts_of (option_copied l.version)) → ⊥
