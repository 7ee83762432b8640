-- What contracts see of `CompositionGraph`.
use Rattle.wac_graph_core.specs.declared.graph.CompositionGraph.TheInside.{Inside}
use Rattle.wac_graph_core.specs.Graph.{Graph, IsGraph}
use Rattle.wac_graph_core.specs.Defining.{ReachBelow}

abbrev pub graph : Inside → Graph
graph t = record { types = t.types; nodes = t.nodes; edges = t.edges; exports = t.exports.items; places = t.places.items }

abbrev pub IsSound : Inside → Type 0
IsSound t = IsGraph (graph t) × ReachBelow t.types t.nodes t.defined_below
