use Rattle.wac_graph_encode.proofs.RootGives.{root_gives}
use Rattle.wac_graph_encode.proofs.laws.outer_imports_give.Goals as goal

pub returns : goal.returns
returns c = root_gives
