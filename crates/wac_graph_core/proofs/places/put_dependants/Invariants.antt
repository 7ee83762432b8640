use Rattle.wac_graph_core.proofs.Placing.{ArePut}
use Rattle.wac_graph_core.proofs.places.put_dependants.Given as goal

abbrev pub invariant-loop-source : goal.invariant-loop-source
invariant-loop-source l = ArePut l.initial.ties.items l.ties.items l.sources l.node l.source-index
