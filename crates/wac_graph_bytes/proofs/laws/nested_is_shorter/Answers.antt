use Rattle.wac_graph_bytes.proofs.Earlier.{shorter}
use Rattle.wac_graph_bytes.proofs.laws.nested_is_shorter.Goals as goal

pub returns : goal.returns
returns c = shorter
