use Rattle.std.proofs.Common.{◌-◌, ◌≤◌}
use Rattle.wac_graph_core.proofs.Halving.{IsSought}
use Rattle.wac_graph_core.proofs.sorted.place_in.Given as goal

abbrev pub invariant-loop-low : goal.invariant-loop-low
invariant-loop-low g l =
    (g.C.KeyOrder.count l.fn.order ≤ g.C.KeyOrder.count l.order)
    × IsSought g.C.KeyOrder.order l.entries l.key l.low l.high (g.C.KeyOrder.count l.order - g.C.KeyOrder.count l.fn.order)

-- proposed from the loop's first test
abbrev pub decreases-loop-low : goal.decreases-loop-low
decreases-loop-low g l = l.high - l.low
