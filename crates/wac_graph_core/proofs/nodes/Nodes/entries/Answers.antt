use Rattle.std.proofs.Common.{ap, sym, ◌∙◌}
use Rattle.std.specs.FinMap as map
use Rattle.wac_graph_core.specs.Slots.{entries_from}
use Rattle.wac_graph_core.proofs.NodeMap.{entries-slots}
use Rattle.wac_graph_core.proofs.nodes.Nodes.entries.Goals as goal

pub returns : goal.returns
returns c = c.new.ensures ∙ ap (entries_from 0) c.as_slice.ensures.value ∙ sym (entries-slots c.self.inside.slots.items) ∙ ap map.entries c.self.view_is
