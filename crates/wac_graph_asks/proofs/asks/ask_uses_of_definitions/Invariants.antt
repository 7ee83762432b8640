use Rattle.std.proofs.Common.{take}
use Rattle.wac_graph_asks.specs.AskedUses.{uses_of_copies, AddsUses}
use Rattle.wac_graph_asks.proofs.asks.ask_uses_of_definitions.Given as goal

-- what the definitions so far use is added
abbrev pub invariant-loop-definition : goal.invariant-loop-definition
invariant-loop-definition l = AddsUses l.types l.initial.all l.all (uses_of_copies l.types (take l.definition-index l.definitions))
