use Rattle.wac_graph_encode.proofs.OutersFound.{outers_found}
use Rattle.wac_graph_encode.proofs.laws.outer_imports_are_found.Goals as goal

pub returns : goal.returns
returns c = outers_found
