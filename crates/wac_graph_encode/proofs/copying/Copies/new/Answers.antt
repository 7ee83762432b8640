use Rattle.wac_graph_encode.specs.Worlds.{AreCopies}
use Rattle.wac_graph_encode.proofs.copying.Copies.new.Goals as goal

pub returns : goal.returns
unfolding AreCopies
returns c from = c.new.ensures from
