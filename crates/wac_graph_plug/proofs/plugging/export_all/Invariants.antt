use Rattle.std.proofs.Common.{take}
use Rattle.wac_types_base.specs.Entries.{texts_of}
use Rattle.wac_graph_plug.specs.Steps.{Grown, ExportsAll}
use Rattle.wac_graph_plug.proofs.plugging.export_all.Given as goal

-- those so far are exported
abbrev pub invariant-loop-name : goal.invariant-loop-name
invariant-loop-name l = ExportsAll l.socket (take l.name-index (texts_of l.names)) l.initial.graph l.graph × Grown l.initial.graph l.graph
