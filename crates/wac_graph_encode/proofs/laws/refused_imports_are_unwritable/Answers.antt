use Rattle.wac_graph_encode.proofs.RefusedImports.{import_unwritable}
use Rattle.wac_graph_encode.proofs.laws.refused_imports_are_unwritable.Goals as goal

pub returns : goal.returns
returns c = import_unwritable
