-- What contracts see of `Node`.
use Rattle.wac_graph_core.specs.declared.node.Node.TheInside.{Inside}
use Rattle.wac_graph_core.specs.Nodes.{NodeData, role_of}

abbrev pub node_data : Inside → NodeData
node_data n = record { role = role_of n.kind; of = n.of; item_kind = n.item_kind; name = n.name; export = n.export }
