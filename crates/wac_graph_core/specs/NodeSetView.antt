-- What holds of each set of nodes.
use Rattle.wac_graph_core.specs.declared.node_set.NodeSet.TheInside.{Inside}
use Rattle.wac_graph_core.specs.NodeSets.{AreIndexed}

abbrev pub IsIndexed : Inside → Type 0
IsIndexed t = AreIndexed t.indexes.keys t.nodes.items
