use Rattle.std.proofs.Common.{◌≡◌, take, false}
use Rattle.std.specs.List.{list_any}
use Rattle.wac_composition.specs.Writable.{Holder as Held}
use Rattle.wac_types_parts.specs.Parts.{imports_of as imports_in}
use Rattle.wac_writable.specs.Unnamed.{KnowsAll}
use Rattle.wac_writable.specs.Holders.{Holds, Keeps}
use Rattle.wac_writable.specs.Tests.{import_unwritable}
use Rattle.wac_writable.proofs.writable.first_that_fails.Given as goal

-- none before can be written not
abbrev pub invariant-loop-at : goal.invariant-loop-at
invariant-loop-at l =
    Keeps l.test.types.now l.fn.holder l.holder × (KnowsAll l.test.types.now l.test.unnamed.now → (h : Held) → Holds l.test.types.now l.fn.holder h
    → list_any (import_unwritable l.test h) (take l.at (imports_in l.test.types.now l.world)) ≡ false)
