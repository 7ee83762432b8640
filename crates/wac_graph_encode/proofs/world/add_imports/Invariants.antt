use Rattle.std.proofs.Common.{◌≡◌, take}
use Rattle.wac_types_parts.specs.Parts.{imports_of}
use Rattle.wac_graph_encode.proofs.world.add_imports.Given as goal

-- those so far are added
abbrev pub invariant-loop-at : goal.invariant-loop-at
invariant-loop-at l = l.imports ≡ take l.at (imports_of l.types l.world)
