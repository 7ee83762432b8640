use Rattle.wac_graph_asks.specs.Graphs.{origin_of}
use Rattle.wac_graph_encode.proofs.Finals.{steps}
use Rattle.wac_graph_encode.proofs.world.+final_type.Given as goal

abbrev pub decreases-final_type : goal.decreases-final_type
decreases-final_type l = steps (origin_of l.graph.now l.node)
