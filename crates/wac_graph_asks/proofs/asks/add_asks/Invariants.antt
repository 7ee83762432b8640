use Rattle.std.proofs.Common.{◌≡◌, ◌++◌}
use Rattle.wac_graph_asks.proofs.asks.add_asks.Given as goal

-- the asks so far are added
abbrev pub invariant-loop-ask : goal.invariant-loop-ask
invariant-loop-ask l = l.all.items ≡ l.initial.all.items ++ l.yielded
