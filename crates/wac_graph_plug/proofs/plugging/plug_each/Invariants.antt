use Rattle.std.proofs.Common.{take}
use Rattle.wac_graph_plug.specs.Steps.{Grown}
use Rattle.wac_graph_plug.specs.Stops.{PlugsAll}
use Rattle.wac_graph_plug.proofs.plugging.plug_each.Given as goal

-- those so far are plugged
abbrev pub invariant-loop-plug : goal.invariant-loop-plug
invariant-loop-plug l =
    PlugsAll l.initial.graph l.graph l.socket (take l.plug-index l.plugs) l.instance l.happened × Grown l.initial.graph l.graph
