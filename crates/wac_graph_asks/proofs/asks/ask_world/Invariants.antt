use Rattle.std.proofs.Common.{take}
use Rattle.wac_composition.specs.Asks.{asked_for}
use Rattle.wac_graph_asks.specs.AskedUses.{all_with_used, AddsUses}
use Rattle.wac_graph_asks.proofs.asks.ask_world.Given as goal

-- what the uses so far use is added
abbrev pub invariant-loop-used : goal.invariant-loop-used
invariant-loop-used l = AddsUses l.types l.initial.all l.all (asked_for l.by (all_with_used l.types (take l.used-index l.uses)))
