use Rattle.wac_graph_bytes.proofs.OneWiring.{wiring_is}
use Rattle.wac_graph_bytes.proofs.laws.one_wiring.Goals as goal

pub returns : goal.returns
returns c = wiring_is
