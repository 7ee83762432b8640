use Rattle.wac_graph_bytes.proofs.OneReading.{sections_is}
use Rattle.wac_graph_bytes.proofs.laws.one_reading.Goals as goal

pub returns : goal.returns
returns c = sections_is
