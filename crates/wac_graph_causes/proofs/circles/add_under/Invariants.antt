use Rattle.std.proofs.Common.{◌≡◌, ◌++◌, map, take}
use Rattle.wac_graph_causes.specs.Circling.{under_name}
use Rattle.wac_graph_causes.proofs.circles.add_under.Given as goal

-- those so far are added
abbrev pub invariant-loop-one : goal.invariant-loop-one
invariant-loop-one l = l.all.items ≡ l.fn.all.items ++ map (under_name l.name) (take l.one-index l.late)
