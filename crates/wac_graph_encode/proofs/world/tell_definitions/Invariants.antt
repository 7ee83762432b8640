use Rattle.std.proofs.Common.{take}
use Rattle.wac_graph_encode.specs.Worlds.{AreDefinitionTypes}
use Rattle.wac_graph_encode.proofs.world.tell_definitions.Given as goal

-- those so far are told
abbrev pub invariant-loop-definition : goal.invariant-loop-definition
invariant-loop-definition l = AreDefinitionTypes (take l.definition-index l.definitions) l.told.entries
