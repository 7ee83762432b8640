use Rattle.std.proofs.Common.{List, map, take}
use Rattle.wac_graph_plug.specs.declared.matching.Match.{Match}
use Rattle.wac_graph_plug.specs.Plugging.{AreMatches}
use Rattle.wac_graph_plug.specs.Plans.{world_in, IsPlanOf}
use Rattle.wac_graph_plug.proofs.plan.plan_of.Given as goal

-- the plugs so far are planned
abbrev pub invariant-loop-at : goal.invariant-loop-at
invariant-loop-at l =
    (mss : List (List Match)) × AreMatches (world_in l.socket) (map world_in (take l.at l.plugs)) mss × IsPlanOf mss l.plan
