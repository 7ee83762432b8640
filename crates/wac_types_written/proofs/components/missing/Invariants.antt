use Rattle.std.proofs.Common.{take}
use Rattle.wac_types_base.specs.Collection.{Grows}
use Rattle.wac_types_written.specs.Components.{AreMissing}
use Rattle.wac_types_written.proofs.components.missing.Given as goal

-- those so far
abbrev pub invariant-loop-at : goal.invariant-loop-at
invariant-loop-at l = record { grows : Grows l.fn.types l.types; missing : AreMissing l.fn.types l.types (take l.at l.used) l.imports l.all }
