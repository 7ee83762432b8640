use Rattle.std.proofs.Common.{take}
use Rattle.wac_types_names.specs.Packages.{AreDefinitions}
use Rattle.wac_types_names.proofs.definitions.definitions_of.Given as goal

-- the definitions among the exports so far
abbrev pub invariant-loop-at : goal.invariant-loop-at
invariant-loop-at l = AreDefinitions l.types (take l.at l.exports) l.found
