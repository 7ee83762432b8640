use Rattle.std.specs.List.{flat_map}
use Rattle.std.proofs.Common.{take}
use Rattle.wac_graph_asks.specs.AskedUses.{AddsUses}
use Rattle.wac_graph_asks.proofs.Uses.{ask_uses_of}
use Rattle.wac_graph_asks.proofs.asks.ask_uses_of_asks.Given as goal

-- what the asks so far use is added
abbrev pub invariant-loop-ask : goal.invariant-loop-ask
invariant-loop-ask l = AddsUses l.types l.initial.all l.all (flat_map (ask_uses_of l.types) (take l.ask-index l.asks))
