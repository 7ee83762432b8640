use Rattle.std.proofs.Common.{take}
use Rattle.wac_graph_plug.specs.Steps.{Grown, PassesAll}
use Rattle.wac_graph_plug.proofs.plugging.pass_all.Given as goal

-- those so far are passed
abbrev pub invariant-loop-one : goal.invariant-loop-one
invariant-loop-one l = PassesAll l.socket l.plug (take l.one-index l.matches) l.initial.graph l.graph × Grown l.initial.graph l.graph
