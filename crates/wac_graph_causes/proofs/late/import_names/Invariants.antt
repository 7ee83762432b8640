use Rattle.std.proofs.Common.{◌≡◌, take}
use Rattle.wac_types_base.specs.Entries.{names_of}
use Rattle.wac_types_parts.specs.Parts.{imports_of}
use Rattle.wac_graph_causes.proofs.late.import_names.Given as goal

abbrev pub invariant-loop-at : goal.invariant-loop-at
invariant-loop-at l = l.names ≡ take l.at (names_of (imports_of l.types l.world))
