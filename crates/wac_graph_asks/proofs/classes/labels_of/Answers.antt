use Rattle.wac_graph_asks.proofs.Linking.{labels_settled}
use Rattle.wac_graph_asks.proofs.classes.labels_of.Goals as goal

pub returns : goal.returns
returns c = λ asks named. labels_settled asks _ _ (c.in_ok-push_labels.ensures asks named) c.settle.ensures
