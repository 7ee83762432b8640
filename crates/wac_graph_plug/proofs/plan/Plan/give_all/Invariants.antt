use Rattle.std.proofs.Common.{take}
use Rattle.wac_graph_plug.specs.Plans.{GivesAll}
use Rattle.wac_graph_plug.proofs.plan.Plan.give_all.Given as goal

-- those so far are given
abbrev pub invariant-loop-given : goal.invariant-loop-given
invariant-loop-given l = GivesAll l.plug (take l.given-index l.found) l.fn.self l.self
