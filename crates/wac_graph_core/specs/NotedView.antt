-- What holds of each collection of nodes.
use Rattle.wac_graph_core.specs.declared.nodes.Nodes.TheInside.{Inside}
use Rattle.wac_graph_core.specs.Slots.{nodes_in}
use Rattle.wac_graph_core.specs.Noted.{HasNotes}

abbrev pub AreNoted : Inside → Type 0
AreNoted t = HasNotes t.noted (nodes_in t.slots.items)
