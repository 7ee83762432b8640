use Rattle.wac_graph_scopes.proofs.RootLaws.{roots_read}
use Rattle.wac_graph_scopes.proofs.laws.types_at_the_root.Goals as goal

pub returns : goal.returns
returns c = roots_read
