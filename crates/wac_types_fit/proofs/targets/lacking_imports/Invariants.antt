use Rattle.std.proofs.Common.{take}
use Rattle.wac_types_base.specs.Entries.{texts_of}
use Rattle.wac_types_base.specs.Implicit.{shown}
use Rattle.wac_types_fit.specs.Targets.{target_import, AreLacking}
use Rattle.wac_types_fit.proofs.targets.lacking_imports.Given as goal

-- the names so far
abbrev pub invariant-loop-at : goal.invariant-loop-at
invariant-loop-at l = AreLacking (target_import (shown l.implicit.entries) l.target.imports) (take l.at l.imports) (texts_of l.lacking.items)
