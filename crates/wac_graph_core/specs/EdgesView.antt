-- What contracts see of `Edges`.
use Rattle.std.specs.Prelude.{List}
use Rattle.wac_graph_core.specs.declared.edge.Edge.{Edge}
use Rattle.wac_graph_core.specs.declared.edges.Edges.TheInside.{Inside}
use Rattle.wac_graph_core.specs.Ties.{edges_in, arguments_at, source_at, AreTied}

abbrev pub edges_of : Inside → List Edge
edges_of t = edges_in t.ties.items

abbrev pub IsTied : Inside → Type 0
IsTied t = AreTied (edges_in t.ties.items) (arguments_at t.ties.items) (source_at t.ties.items)
