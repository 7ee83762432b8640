use Rattle.wac_graph_asks.specs.Named.{all_words}
use Rattle.wac_graph_asks.proofs.Linking.{SoFar}
use Rattle.wac_graph_asks.proofs.classes.join_asks.Given as goal

abbrev pub invariant-loop-at : goal.invariant-loop-at
invariant-loop-at l = SoFar (all_words l.names) l.at l.firsts.by_name l.firsts.by_track l.firsts.by_identifier l.labels.items
