use Rattle.wac_graph_encode.proofs.AcceptedImports.{imports_give}
use Rattle.wac_graph_encode.proofs.laws.accepted_imports_give.Goals as goal

pub returns : goal.returns
returns c = imports_give
